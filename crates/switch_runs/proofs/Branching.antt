-- How a branch goes: by its condition, with its slot or past it.
use Rattle.switch_runs.proofs.Common.{◌≡◌, ◌≢◌, ℕ, zero, suc, ◌+◌, ◌*◌, ◌%◌, Bool, true, false, not, Some, None, refl, ap, sym, ◌∙◌, subst, arith, inl, inr, ◌⊎◌, ◌==◌, ℤ, cond_both, false≢true, Instr, holds_of, wrapped, Slot, NoSlot, Taken, Untaken, State, sum_of, act, step_of, run, transfers, is_taken, runs_slot, way_of, w32, cast_unsigned, branch_step, branched, call_step, delayed, jump_step, target_of, unless_couple}
use Rattle.v8_decode.specs.declared.Instr.TheVariants as i

pub run_add : (s : State) (k l : ℕ) → run s (k + l) ≡ run (run s k) l
run_add s k zero = let e : k + zero ≡ k = omega arith in ap (run s) e
run_add s k (suc l) = let e : k + suc l ≡ suc (k + l) = omega arith in ap (run s) e ∙ ap step_of (run_add s k l)

pub taken_not : Taken ≢ NoSlot
taken_not e = absurd (cc)

-- there is a slot or none
pub slot_cases : (x : Slot) → (x ≡ NoSlot) ⊎ (x ≢ NoSlot)
slot_cases NoSlot = inl refl
slot_cases _ = inr (λ e. absurd (cc))

-- ---- how a branch goes

abbrev pub TellsBy : ℕ → Bool → ℤ → State → Slot → Bool → Type 0
TellsBy cond annul disp t y holds =
    y ≢ NoSlot → t.slot ≡ y → (holds ≡ is_taken (way_of (Some (i.Branch cond annul disp)) y))
    × (runs_slot annul (way_of (Some (i.Branch cond annul disp)) y) ≡ true)

tells_taken : (cond : ℕ) (annul : Bool) (disp : ℤ) (s : State) (to : ℕ) (y : Slot)
    → TellsBy cond annul disp (delayed s to) y true
tells_taken cond annul disp s to Taken not e = (refl, grind arith)
tells_taken cond annul disp s to NoSlot not e = absurd (not refl)
tells_taken cond annul disp s to Untaken not e = absurd (cc)

branched_tells : (cond : ℕ) (annul : Bool) (disp : ℤ) (s : State) (to : ℕ) (y : Slot) (holds always : Bool)
    → s.slot ≡ NoSlot → TellsBy cond annul disp (branched holds always annul s to) y holds
branched_tells cond true disp s to y true true slot not e = absurd (not (sym e ∙ slot))
branched_tells cond false disp s to y true true slot not e = tells_taken cond false disp s to y not e
branched_tells cond annul disp s to y true always slot not e = tells_taken cond annul disp s to y not e
branched_tells cond true disp s to y false always slot not e = absurd (not (sym e ∙ slot))
branched_tells cond false disp s to Untaken false always slot not e = (refl, refl)
branched_tells cond false disp s to NoSlot false always slot not e = absurd (not refl)
branched_tells cond false disp s to Taken false always slot not e = absurd (cc)

pub branch_tells : (s : State) (cond : ℕ) (annul : Bool) (disp : ℤ) (y : Slot) → s.slot ≡ NoSlot
    → TellsBy cond annul disp (act s (i.Branch cond annul disp)) y (holds_of cond s.codes)
unfolding act branch_step
branch_tells s cond annul disp y slot =
    subst (λ (x : Slot). TellsBy cond annul disp (unless_couple x s (branch_step s cond annul disp)) y (holds_of cond s.codes))
    (sym slot) (branched_tells cond annul disp s (target_of s disp) y (holds_of cond s.codes) (cond == 8) slot)

-- where an annulled branch goes: `ba,a` to its target, and one that isn't taken past its slot
abbrev pub Annulled : State → State → ℕ → ℤ → Type 0
Annulled s t cond disp =
    ((holds_of cond s.codes ≡ true) × ((cond == 8) ≡ true) × (t.pc ≡ wrapped (s.pc + 4 * cast_unsigned w32 disp)))
    ⊎ ((holds_of cond s.codes ≡ false) × (t.pc ≡ wrapped (s.pc + 8)))

abbrev pub IsAnnulled : State → State → Instr → Type 0
IsAnnulled s t instr = (cond : ℕ) × (disp : ℤ) × (instr ≡ i.Branch cond true disp) × Annulled s t cond disp

annulled_branch : (s : State) (cond : ℕ) (annul : Bool) (disp : ℤ) (holds always : Bool) → holds_of cond s.codes ≡ holds
    → (cond == 8) ≡ always → (branched holds always annul s (target_of s disp)).slot ≡ NoSlot
    → IsAnnulled s (branched holds always annul s (target_of s disp)) (i.Branch cond annul disp)
annulled_branch s cond true disp true true h a e = (cond, disp, refl, inl (h, a, refl))
annulled_branch s cond true disp true false h a e = absurd (cc)
annulled_branch s cond false disp true true h a e = absurd (cc)
annulled_branch s cond false disp true false h a e = absurd (cc)
annulled_branch s cond true disp false always h a e = (cond, disp, refl, inr (h, refl))
annulled_branch s cond false disp false always h a e = absurd (cc)

-- a transfer that goes on without a slot
pub annulled_is : (s : State) (instr : Instr) → s.slot ≡ NoSlot → transfers instr ≡ true → (act s instr).ending ≡ None
    → (act s instr).slot ≡ NoSlot → IsAnnulled s (act s instr) instr
unfolding act branch_step call_step jump_step
annulled_is s (i.Branch cond annul disp) slot t live now =
    subst (λ (x : Slot). (unless_couple x s (branch_step s cond annul disp)).slot ≡ NoSlot
    → IsAnnulled s (unless_couple x s (branch_step s cond annul disp)) (i.Branch cond annul disp)) (sym slot)
    (annulled_branch s cond annul disp (holds_of cond s.codes) (cond == 8) refl refl) now
annulled_is s (i.Call disp) slot t live now =
    absurd (subst (λ (x : Slot). (unless_couple x s (call_step s disp)).slot ≡ NoSlot → ⊥) (sym slot) (λ e. absurd (cc)) now)
annulled_is s (i.Jmpl rd rs1 op2) slot t live now =
    absurd (subst (λ (x : Slot). (unless_couple x s (jump_step s rd (sum_of s rs1 op2))).ending ≡ None
    → (unless_couple x s (jump_step s rd (sum_of s rs1 op2))).slot ≡ NoSlot → ⊥) (sym slot)
    (cond_both (sum_of s rs1 op2 % 4 == 0) _ _ (λ (u : State). u.ending ≡ None → u.slot ≡ NoSlot → ⊥)
    (λ _ live e. absurd (cc)) (λ _ live e. absurd (cc))) live now)
annulled_is s _ slot t live now = absurd (false≢true t)

pub cond_of : {c d : ℕ} {a e : Bool} {x y : ℤ} → i.Branch c a x ≡ i.Branch d e y → c ≡ d
cond_of h = cc

pub annul_of : {c d : ℕ} {a e : Bool} {x y : ℤ} → i.Branch c a x ≡ i.Branch d e y → a ≡ e
annul_of h = cc

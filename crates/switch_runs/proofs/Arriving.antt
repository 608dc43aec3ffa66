-- The words from the comparison to the jump are carried out in order.
use Rattle.switch_runs.proofs.Common.{◌≡◌, ◌≢◌, ℕ, zero, suc, ◌+◌, ◌-◌, ◌*◌, ◌<◌, ◌≤◌, Bool, true, false, not, ◌||◌, Some, None, length, refl, ap, sym, ◌∙◌, subst, arith, inl, inr, if◌then◌else◌, ◌==◌, ℤ, w32, cast_unsigned, cases_Bool, lt-ltb, Words, address_of, IsText, wrapped, holds_of, Couple, Slot, NoSlot, State, branch_step, branched, target_of, unless_couple, act, run, transfers as is_transfer, goes_act, FetchesOnly, instr_at, live_before, lived_to, EdgeKind, Approach, is_taken, runs_slot, slot_words, to_branch, to_jump, couples}
use Rattle.v8_decode.specs.declared.Instr.TheVariants as i
use Rattle.switch_runs.proofs.Coming.{Carries, IsAt, Ready, at_last, goes_to, to_block}
use Rattle.switch_runs.proofs.Steps.{carries_out, is_inside}

-- ---- behind a branch

-- in the slot, where that is run, and then there; or there
abbrev pub IsBehind : Words → ℕ → ℕ → Bool → State → Type 0
IsBehind text word to true s = (s.pc ≡ address_of text (word + 1)) × (s.npc ≡ to) × (s.slot ≢ NoSlot)
IsBehind text word to false s = (s.pc ≡ to) × (s.npc ≡ wrapped (to + 4)) × (s.slot ≡ NoSlot)

module _ (text : Words) (is_text : IsText text) where
  next_address : (word : ℕ) → word ≤ length text.words → wrapped (address_of text word + 4) ≡ address_of text (word + 1)
  next_address word l = let below = is_text.below in omega arith

  branch_goes : (word : ℕ) (s : State) (disp : ℤ) (holds annul : Bool) → word < length text.words → IsAt text word s
      → IsBehind text word (goes_to text word disp holds) (not annul || holds)
      (branched holds false annul s (target_of s disp))
  branch_goes word s disp true true l at =
      (at.npc, ap (λ a. wrapped (a + 4 * cast_unsigned w32 disp)) at.pc, λ e. absurd (cc))
  branch_goes word s disp true false l at =
      (at.npc, ap (λ a. wrapped (a + 4 * cast_unsigned w32 disp)) at.pc, λ e. absurd (cc))
  branch_goes word s disp false false l at =
      let e : word + 1 + 1 ≡ word + 2 = omega arith in (
        at.npc,
        cc (at.npc, next_address (word + 1) (omega arith), e),
        λ e. absurd (cc),
      )
  branch_goes word s disp false true l at =
      let pc = at.pc in
      (omega arith, omega arith, at.slot)

  pub branch_acts : (word : ℕ) (s : State) (cond : ℕ) (annul : Bool) (disp : ℤ) (taken : Bool)
      → word < length text.words → IsAt text word s → (cond == 8) ≡ false → holds_of cond s.codes ≡ taken
      → IsBehind text word (goes_to text word disp taken) (not annul || taken) (act s (i.Branch cond annul disp))
  unfolding act branch_step
  branch_acts word s cond annul disp taken l at other holds =
      subst (λ (x : Slot). IsBehind text word (goes_to text word disp taken) (not annul || taken)
      (unless_couple x s (branched (holds_of cond s.codes) (cond == 8) annul s (target_of s disp)))) (sym at.slot)
      (rw (holds, other) (branch_goes word s disp taken annul l at))

  -- ---- steps

  module _ (s : State) (fetches : FetchesOnly text s) where
    -- a word that is no transfer leads to the next
    pub goes_straight : (n word : ℕ) → word < length text.words → IsAt text word (run s n)
        → is_transfer (instr_at text word) ≡ false → (run s (suc n)).ending ≡ None
        → IsAt text (word + 1) (run s (suc n))
    goes_straight n word l at f live =
        let is = carries_out text is_text s fetches n word at.pc live in
        let went = goes_act (run s n) (instr_at text word) f (ap (λ (t : State). t.ending) (sym is) ∙ live) in
        rw is (record {
          pc = went.0 ∙ at.npc;
          npc = cc (went.1, at.npc, next_address (word + 1) (omega arith));
          slot = went.2;
        })

    pub goes_along : (n from count : ℕ) → from + count ≤ length text.words → IsAt text from (run s n)
        → ((k : ℕ) → k < count → is_transfer (instr_at text (from + k)) ≡ false)
        → (run s (n + count)).ending ≡ None → IsAt text (from + count) (run s (n + count))
    goes_along n from zero l at f live =
        let e : n ≡ n + 0 = omega arith in
        let g : from ≡ from + 0 = omega arith in
        rw e at (rw g at at)
    goes_along n from (suc count) l at f live =
        let e : n + suc count ≡ suc (n + count) = omega arith in
        let g : from + suc count ≡ from + count + 1 = omega arith in
        let live' : (run s (suc (n + count))).ending ≡ None = rw e at live in
        let before : IsAt text (from + count) (run s (n + count)) =
        goes_along n from count (omega arith) at (λ k m. f k (omega arith)) (live_before (run s (n + count)) live') in
        rw e (rw g (goes_straight (n + count) (from + count) (omega arith) before (f count (omega arith)) live'))

    -- a slot leads to where its transfer goes
    pub leaves_slot : (n word to : ℕ) → (run s n).pc ≡ address_of text word → (run s n).npc ≡ to
        → (run s n).slot ≢ NoSlot → (run s (suc n)).ending ≡ None
        → ((run s (suc n)).pc ≡ to) × ((run s (suc n)).npc ≡ wrapped (to + 4)) × ((run s (suc n)).slot ≡ NoSlot)
    leaves_slot n word to pc npc not live =
        let is = carries_out text is_text s fetches n word pc live in
        let live' = ap (λ (t : State). t.ending) (sym is) ∙ live in
        rw is (elim (cases_Bool (is_transfer (instr_at text word))) [
          | inl e ↦
              let ended : (act (run s n) (instr_at text word)).ending ≡ Some Couple =
              couples (run s n).slot (run s n) (instr_at text word) not refl e in
              absurd (cc)
          | inr e ↦
              let went = goes_act (run s n) (instr_at text word) e live' in
              (went.0 ∙ npc, went.1 ∙ ap (λ a. wrapped (a + 4)) npc, went.2)
        ])

-- ---- the whole way

module _ {text : Words} (is_text : IsText text) {a : Approach} {cond : ℕ} {annul : Bool} {way : EdgeKind} {s : State}
    (r : Ready text a cond annul way s) (goes : holds_of cond (run s (to_branch a)).codes ≡ is_taken way)
    (live : (run s (to_jump a (runs_slot annul way))).ending ≡ None) where
  lives : (n : ℕ) → n ≤ to_jump a (runs_slot annul way) → (run s n).ending ≡ None
  lives n l = lived_to s n (to_jump a (runs_slot annul way)) l live

  -- ---- from the comparison to the branch

  comparison : (n : ℕ) → n ≤ to_branch a → IsAt text (a.compare.word + n) (run s n)
  comparison n l =
      let e : 0 + n ≡ n = omega arith in
      rw e at (goes_along text is_text s r.fetches 0 a.compare.word n (omega arith) r.at
      (λ k m. r.compared (a.compare.word + k) (omega arith) (omega arith)) (rw e (lives n (omega arith))))

  at_branch : IsAt text a.last (run s (to_branch a))
  at_branch =
      let e : a.compare.word + to_branch a ≡ a.last = omega arith in
      rw e at (comparison (to_branch a) (omega arith))

  -- ---- behind it

  past_branch : IsBehind text a.last (address_of text a.first) (runs_slot annul way) (run s (to_branch a + 1))
  past_branch =
      let e : suc (to_branch a) ≡ to_branch a + 1 = omega arith in
      let n : ℕ = to_branch a in
      let is : run s (suc n) ≡ act (run s n) (i.Branch cond annul r.disp) =
      carries_out text is_text s r.fetches n a.last at_branch.pc (lives (suc n) (omega arith))
      ∙ ap (act (run s n)) r.branch in
      rw (← e, is) (rw r.leads at
      (branch_acts text is_text a.last (run s n) cond annul r.disp (is_taken way) r.last_low at_branch r.other goes))

  -- the slot is run where the edge runs it, and the jump's block comes
  abbrev Arrives : ℕ → Type 0
  Arrives count = (a.slot ≡ count) × IsAt text a.first (run s (to_branch a + 1 + count))

  at_place : (t : State) → t.pc ≡ address_of text a.first → t.npc ≡ wrapped (address_of text a.first + 4)
      → t.slot ≡ NoSlot → IsAt text a.first t
  at_place t pc npc none =
      record { pc = pc; npc = npc ∙ next_address text is_text a.first (omega arith); slot = none }

  arrives : (runs : Bool) → runs_slot annul way ≡ runs
      → IsBehind text a.last (address_of text a.first) runs (run s (to_branch a + 1))
      → (run s (to_branch a + 1 + (if runs then 1 else 0))).ending ≡ None → Arrives (if runs then 1 else 0)
  arrives true e h live =
      let f : to_branch a + 1 + 1 ≡ suc (to_branch a + 1) = omega arith in
      let live' : (run s (suc (to_branch a + 1))).ending ≡ None = rw f at live in
      let inside : a.last + 1 < length text.words =
      is_inside text is_text s r.fetches (to_branch a + 1) (a.last + 1) h.0 live' in
      let out = leaves_slot text is_text s r.fetches (to_branch a + 1) (a.last + 1)
      (address_of text a.first) h.0 h.1 h.2 live' in
      let here : slot_words text a.last annul way ≡ 1 = rw e (rw (lt-ltb _ _ inside)) in (
        r.slot ∙ here,
        rw f (at_place (run s (suc (to_branch a + 1))) out.0 out.1 out.2),
      )
  arrives false e h live =
      let f : to_branch a + 1 + 0 ≡ to_branch a + 1 = omega arith in
      let here : slot_words text a.last annul way ≡ 0 = rw e in (
        r.slot ∙ here,
        rw f (at_place (run s (to_branch a + 1)) h.0 h.1 h.2),
      )

  abbrev slot_steps : ℕ
  slot_steps = if runs_slot annul way then 1 else 0

  arrived : Arrives slot_steps
  arrived = arrives (runs_slot annul way) refl past_branch (lives (to_branch a + 1 + slot_steps) (omega arith))

  pub at_last-is : at_last a ≡ to_jump a (runs_slot annul way)
  at_last-is = ap (λ n. to_branch a + 1 + n + (a.jump - a.first)) arrived.0

  at_first : IsAt text a.first (run s (to_block a))
  at_first = rw arrived.0 arrived.1

  -- ---- in the jump's block

  in_block : (n : ℕ) → n ≤ a.jump - a.first → IsAt text (a.first + n) (run s (to_block a + n))
  in_block n l =
      goes_along text is_text s r.fetches (to_block a) a.first n (omega arith) at_first
      (λ k m. r.jumping (a.first + k) (omega arith) (omega arith))
      (lives (to_block a + n) (omega (arith, at_last-is)))

  pub at_jump : IsAt text a.jump (run s (at_last a))
  at_jump =
      let e : a.first + (a.jump - a.first) ≡ a.jump = omega arith in
      rw e at (in_block (a.jump - a.first) (omega arith))

  slot_at : (n : ℕ) → n < a.slot → (run s (to_branch a + 1 + n)).pc ≡ address_of text (a.last + 1 + n)
  slot_at n l = elim (cases_Bool (runs_slot annul way)) [
    | inl e ↦
        let h = rw e at past_branch in
        let one : a.slot ≡ 1 = arrived.0 ∙ ap (λ (b : Bool). if b then 1 else 0) e in
        let f : to_branch a + 1 ≡ to_branch a + 1 + n = omega arith in
        let g : a.last + 1 ≡ a.last + 1 + n = omega arith in
        rw f at (h.0 ∙ ap (address_of text) g)
    | inr e ↦
        let none : a.slot ≡ 0 = arrived.0 ∙ ap (λ (b : Bool). if b then 1 else 0) e in
        absurd (omega arith)
  ]

  pub carries : Carries text a s
  carries = record { comparison = λ n l. (comparison n l).pc; slot = slot_at; block = λ n l. (in_block n l).pc }

-- The machine stands outside a delay slot where it has come to a word that isn't the second of a block or later, but
-- for the last: each slot is the word after a transfer, and the word after that begins a block.
use Rattle.switch_runs.proofs.Common.{◌≡◌, ◌≢◌, ℕ, zero, suc, ◌+◌, ◌%◌, ◌^◌, ◌<◌, ◌≤◌, Bool, true, false, Some, None, List, [], length, slice_index, refl, ap, sym, ◌∙◌, subst, arith, inl, inr, ◌==◌, cases_Bool, cond_both, false≢true, Words, address_of, IsText, Instr, holds_of, wrapped, Couple, Slot, NoSlot, State, sum_of, branch_step, branched, call_step, jump_step, target_of, unless_couple, act, run, transfers, goes_act, end_at, is_transfer, Blocks, blocks_of, last_word, instr_at, Graph, graph_of, end_of_walk, point_of, BeginsAt, FetchesOnly, MatchesBy, next_address, IsCut, cut, ends_within, live_before, walks_match, couples}
use Rattle.v8_decode.specs.declared.Instr.TheVariants as i
use Rattle.switch_runs.proofs.Coming.{IsAt}
use Rattle.switch_runs.proofs.Blocks.{no_leader, transfer_at}
use Rattle.switch_runs.proofs.Steps.{carries_out, comes_to}
use Rattle.cfg_walk.proofs.NoneOpen.{cases_none}
use Rattle.switch_runs.proofs.Branching.{slot_cases}

-- ---- into a slot

-- a transfer outside a slot goes to the next word where that is its slot
abbrev pub Enters : State → State → Type 0
Enters s t = t.ending ≡ None → t.slot ≢ NoSlot → t.pc ≡ s.npc

branch_enters : (s : State) (holds always annul : Bool) (target : ℕ) → s.slot ≡ NoSlot
    → Enters s (branched holds always annul s target)
branch_enters s true true true target e live not = absurd (not e)
branch_enters s false always true target e live not = absurd (not e)
branch_enters s _ _ _ target e live not = refl

pub enters : (s : State) (instr : Instr) → s.slot ≡ NoSlot → transfers instr ≡ true → Enters s (act s instr)
unfolding act branch_step call_step jump_step
enters s (i.Branch cond annul disp22) e t =
    subst (λ (x : Slot). Enters s (unless_couple x s (branch_step s cond annul disp22))) (sym e)
    (branch_enters s (holds_of cond s.codes) (cond == 8) annul (target_of s disp22) e)
enters s (i.Call disp30) e t = rw e (λ live not. refl)
enters s (i.Jmpl rd rs1 op2) e t =
    rw e (cond_both (sum_of s rs1 op2 % 4 == 0) _ _ (Enters s) (λ _ live not. refl) (λ _ live not. absurd (cc)))
enters s _ e t = absurd (cc)

-- ---- a slot is the word after a transfer

record IsSlotOf (text : Words) (s : State) : Type 0 where
  pub word : ℕ
  pub within : word < length text.words
  pub transfer : is_transfer (end_at text word) ≡ true
  pub pc : s.pc ≡ address_of text (word + 1)

module _ (text : Words) (given : List ℕ) (start : ℕ) (s0 : State) (is_text : IsText text)
    (fetches : FetchesOnly text s0) (begins : BeginsAt text start s0) where
  -- outside a slot the next word comes next
  pub goes_next : (n : ℕ) → (run s0 n).ending ≡ None → (run s0 n).slot ≡ NoSlot
      → (run s0 n).npc ≡ ((run s0 n).pc + 4) % 2 ^ 32
  goes_next n live e =
      let s : State = run s0 n in
      let graph : Graph = graph_of (blocks_of text given) [] in
      let matched : MatchesBy text graph (end_of_walk text graph start s0 n) (point_of s) NoSlot = rw e at
      (walks_match text given [] start s0 n is_text fetches begins (λ block h. absurd (false≢true h))
      (λ k _ cased. absurd (false≢true (sym (cases_none (end_of_walk text graph start s0 k)) ∙ cased))) live).0 in
      matched.1

  slot_of : (n : ℕ) → (run s0 n).ending ≡ None → (run s0 n).slot ≢ NoSlot → IsSlotOf text (run s0 n)
  slot_of zero live not = absurd (not begins.slot)
  slot_of (suc n) live not =
      let s : State = run s0 n in
      let here = comes_to text is_text s0 fetches n live in
      let instr : Instr = instr_at text here.0 in
      let is = carries_out text is_text s0 fetches n here.0 here.1.is live in
      let live' = ap (λ (t : State). t.ending) (sym is) ∙ live in
      let not' : (act s instr).slot ≢ NoSlot = λ e. not (ap (λ (t : State). t.slot) is ∙ e) in
      rw is (elim (cases_Bool (transfers instr)) [
        | inr e ↦ absurd (not' (goes_act s instr e live').2)
        | inl e ↦ elim (slot_cases s.slot) [
          | inr f ↦ let couple : (act s instr).ending ≡ Some Couple = couples s.slot s instr f refl e in absurd (cc)
          | inl f ↦ record {
            word = here.0;
            within = here.1.within;
            transfer = transfer_at text here.0 e;
            pc = enters s instr f e live' not' ∙ goes_next n (live_before s live) f
                ∙ ap (λ k. wrapped (k + 4)) here.1.is ∙ next_address text here.0 is_text here.1.within;
          }
        ]
      ])

  -- ---- outside

  pub stands_outside : (block word n : ℕ) → block < length (blocks_of text given).firsts
      → slice_index (blocks_of text given).firsts block ≤ word
      → word < last_word (blocks_of text given).firsts (blocks_of text given).words block
      → (run s0 n).ending ≡ None → (run s0 n).pc ≡ address_of text word → IsAt text word (run s0 n)
  stands_outside block word n l above below live pc = record {
    pc = pc;
    npc = cc (goes_next n live outside, pc, next_address text word is_text within);
    slot = outside;
  }
    where
      b : Blocks
      b = blocks_of text given

      parts : IsCut text b
      parts = cut text given is_text.some

      within : word < length text.words
      within = omega (arith, ends_within b.words b.firsts parts.firsts block l, parts.words)

      none_inside : (run s0 n).slot ≢ NoSlot → ⊥
      none_inside not =
          let here = slot_of n live not in
          let next : here.word + 2 ≡ word + 1 = omega arith in
          let inside : here.word + 2 < b.words = omega (arith, ends_within b.words b.firsts parts.firsts block l) in
          no_leader text b parts block word l above below (rw next at (parts.second here.word here.transfer inside))

      outside : (run s0 n).slot ≡ NoSlot
      outside = elim (slot_cases (run s0 n).slot) [ inl e ↦ e | inr not ↦ absurd (none_inside not) ]

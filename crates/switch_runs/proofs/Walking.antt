-- Along each run: where the walk stands at the block of an open switch's jump, the comparison was made, and the jump
-- goes to a word of the table.
use Rattle.switch_runs.proofs.Common.{◌≡◌, ◌≢◌, ℕ, zero, suc, ◌-◌, ◌<◌, true, false, List, length, Option, Some, None, refl, ap, sym, ◌∙◌, subst, arith, inl, inr, cases_Bool, eq-eqb, false≢true, lt-ltb, Words, word_at, Ending, Slot, NoSlot, State, run, transfers, EdgeKind, is_among, entered_of, instr_at as word_instr, Node, Open, jumps_in, node_of, completed, end_of_walk, gone, goes_on_at, node_after, point_of, unless_ended, way_of, JumpsGoByCase, FetchesOnly, MatchesBy, entry_leads, block, first_held, within, word_at-address, goes_act, couples, first_matches, live_before, steps_match, node_in, code_stays, Couple, JumpsAreCases, SwitchesAreCompared, SwitchWalksMatch, ComesFromCompare, Matches, home_of, ◌==◌, list_any, Taken, Block, GoesByCase, IsTarget, GoesIntoTable, number_in}
use Rattle.cfg_walk.specs.Walk.{instr_at}
use Rattle.switch_runs.proofs.About.{about, About, in_targets, target_among}
use Rattle.switch_runs.proofs.Known.{AtHead, Carries, IsRun, KnownBy, Knows, Tells, b, begins_block, carried, comes_from, graph, heads, known_outside, list, opened, outside, parts, run_of, sets_transfer, Outside, ends_block}
use Rattle.switch_runs.proofs.Passing.{leaves_slot, passes}
use Rattle.switch_runs.proofs.Quiet.{quiet_knows}
use Rattle.switch_runs.proofs.Numbered.{goes_by_number}
use Rattle.switch_runs.proofs.CaseBlocks.{some_of}
use Rattle.switch_runs.proofs.Branching.{taken_not}

module _ {text : Words} {given : List ℕ} {entry : ℕ} {opens : List Open} {s0 : State}
    (r : IsRun text given entry opens s0) where
  -- from its own block it goes to a word of the table
  jump_goes : (n k : ℕ) → Tells r n (block k) → (run s0 (suc n)).ending ≡ None → jumps_in opens k ≡ true
      → (run s0 n).slot ≡ NoSlot → (run s0 (suc n)).slot ≡ Taken → IsTarget text opens (block k) (run s0 (suc n)).npc
  jump_goes n k h live jumps slot taken =
      let to = some_of (word_at text (run s0 (suc n)).npc) goes.inside in (
        to.0,
        to.1,
        in_targets (λ x. x == to.0) opens o k from.among from.block_is (ap (list_any (λ x. x == to.0)) from.is.targets
            ∙ target_among text o.switch (number_in o s0 from.passed.moment) goes.entry to.0 r.is_text a.table
            goes.below goes.is (ap (word_at text) (sym goes.goes) ∙ to.1)),
      )
    where
      out : Outside r n (block k)
      out = outside r n (block k) h live slot

      from : ComesFromCompare text (list r) entry opens s0 n k out.on.word
      from = comes_from r n (block k) out.known.1 k refl jumps out.on.word out.on.at

      o : Open
      o = from.switch

      a : About text (b r) entry o from.is.cond from.is.annul
      a = about text given entry r.is_text o from.is

      goes : GoesIntoTable text o.switch (number_in o s0 from.passed.moment) (run s0 n)
      goes =
          let last = ends_block r n (block k) out (sets_transfer r n out.on (λ e. taken_not (sym taken ∙ e))) k refl in
          goes_by_number r o from.is n out.on.word (live_before (run s0 n) live) from.passed
          (cc (last, from.block_is, a.jump))

  goes_by_case : (n : ℕ) (node : Node) → Tells r n node → (run s0 (suc n)).ending ≡ None
      → GoesByCase text opens node (point_of (run s0 n)) (point_of (run s0 (suc n)))
  goes_by_case n (Block k) h live cased slot taken = jump_goes n k.0 h live cased slot taken
  goes_by_case n _ h live cased slot taken = absurd (false≢true cased)

  -- ---- what is known after a step

  abbrev Next : ℕ → Node → Slot → Slot → Node
  Next n node x y = node_after (graph r) node (completed text (graph r) node (point_of (run s0 n)) (point_of (run s0 (suc n))) x y)

  -- what is carried out in a slot is no transfer
  slot_straight : (n : ℕ) → (run s0 n).slot ≢ NoSlot → (c : Carries r n) → transfers (word_instr text c.word) ≡ false
  slot_straight n was c = elim (cases_Bool (transfers (word_instr text c.word))) [
    | inr e ↦ e
    | inl e ↦ absurd (ended_live (sym (couples (run s0 n).slot (run s0 n) (word_instr text c.word) was refl e) ∙ c.acted))
  ]
    where
      ended_live : Some Couple ≡ None → ⊥
      ended_live e = absurd (cc)

  -- a step out of a slot leaves no other behind
  never_both : (n : ℕ) → (run s0 (suc n)).ending ≡ None → (run s0 n).slot ≢ NoSlot → (run s0 (suc n)).slot ≢ NoSlot → ⊥
  never_both n live was now =
      let c = carried r n live in absurd (false≢true (sym (slot_straight n was c) ∙ sets_transfer r n c now))

  -- it goes on where the transfer before leads
  pc_after : (n : ℕ) → (run s0 (suc n)).ending ≡ None → (run s0 n).slot ≢ NoSlot → (run s0 (suc n)).pc ≡ (run s0 n).npc
  pc_after n live was =
      let c = carried r n live in
      cc (c.acts, (goes_act (run s0 n) (word_instr text c.word) (slot_straight n was c) c.acted).0)

  -- the way of the transfer before a slot
  abbrev WayIn : ℕ → Slot → EdgeKind
  WayIn n x = way_of (instr_at text ((run s0 n).pc - 4)) x

  next_knows : (n : ℕ) (node : Node) → Tells r n node → (run s0 (suc n)).ending ≡ None → (x y : Slot)
      → (run s0 n).slot ≡ x → (run s0 (suc n)).slot ≡ y → KnownBy r (suc n) (Next n node x y) y
  next_knows n node h live NoSlot NoSlot was now = quiet_knows r n node (outside r n node h live was) now
  next_knows n node h live NoSlot y was now = passes r n node (outside r n node h live was) y now (λ e. absurd (cc))
  next_knows n node h live x NoSlot was now =
      leaves_slot r n node (WayIn n x) (subst (λ (x : Slot). MatchesBy text (graph r) node (point_of (run s0 n)) x) was h.matches)
      (subst (λ (x : Slot). KnownBy r n node x) was h.known) (pc_after n live (λ e. absurd (cc)))
  next_knows n node h live x y was now = absurd (never_both n live (λ e. absurd (cc)) (λ e. absurd (cc)))

  fetches_at : (n : ℕ) → FetchesOnly text (run s0 n)
  fetches_at n a = code_stays.1 s0 n a ∙ r.fetches a

  tells_next : (n : ℕ) (node : Node) → Tells r n node → (run s0 (suc n)).ending ≡ None
      → Tells r (suc n) (node_after (graph r) node (gone text (graph r) node (point_of (run s0 n)) (goes_on_at (run s0 (suc n)))))
  tells_next n node h live =
      let went = steps_match text given opens node (run s0 n) r.is_text (opened r) (fetches_at n) h.inside
      (live_before (run s0 n) live) h.matches (goes_by_case n node h live) live in
      record {
        matches = went.0;
        inside = went.1;
        known =
            rw (ap (λ (x : Option Ending). unless_ended x (point_of (run s0 (suc n)))) live)
            (next_knows n node h live (run s0 n).slot (run s0 (suc n)).slot refl refl);
      }

  module _ (among : is_among given entry ≡ true) where
    begins : Matches text (graph r) (node_of (b r) (Some entry)) (point_of s0)
    begins = first_matches text given opens entry s0 r.is_text r.fetches r.begins (opened r)

    start_knows : Knows r 0 (node_of (b r) (Some entry))
    start_knows =
        heads r 0 (node_of (b r) (Some entry)) home first (λ o among is there.
        let a = about text given entry r.is_text o is in
        let begins = begins_block r 0 entry o.block (node_of (b r) (Some entry)) home first at there in
        absurd (false≢true (sym a.apart ∙ eq-eqb _ _ begins)))
      where
        at : word_at text s0.pc ≡ Some entry
        at =
            let inside : within (length text.words) entry ≡ Some entry = rw (lt-ltb _ _ r.begins.within) in
            cc (r.begins.pc, word_at-address text entry, inside)

        home : home_of (node_of (b r) (Some entry)) ≡ node_of (b r) (word_at text s0.pc)
        home =
            let matched : MatchesBy text (graph r) (node_of (b r) (Some entry)) (point_of s0) NoSlot =
            rw r.begins.slot at begins in
            matched.0

        first : AtHead r 0
        first w here =
            let same : entry ≡ w = cc (at, here) in
            let low : entry < (b r).words = omega (arith, r.begins.within, (parts r).words) in
            rw (← same) (
              low,
              first_held (b r).words (b r).firsts (parts r).firsts entry
                  (entry_leads text given entry among r.begins.within),
            )

    pub tells : (n : ℕ) → (run s0 n).ending ≡ None → Tells r n (end_of_walk text (graph r) entry s0 n)
    unfolding end_of_walk
    tells zero live = record {
      matches = begins;
      inside = node_in (b r) opens (parts r).firsts.some (Some entry);
      known = subst (λ (x : Slot). KnownBy r 0 (node_of (b r) (Some entry)) x) (sym r.begins.slot) start_knows;
    }
    tells (suc n) live = tells_next n (end_of_walk text (graph r) entry s0 n) (tells n (live_before (run s0 n) live)) live

    pub goes : JumpsGoByCase text (graph r) entry s0
    goes n live = goes_by_case n (end_of_walk text (graph r) entry s0 n) (tells n (live_before (run s0 n) live)) live

    pub from_compare : (n k word : ℕ) → (run s0 n).ending ≡ None → (run s0 n).slot ≡ NoSlot
        → end_of_walk text (graph r) entry s0 n ≡ block k → jumps_in opens k ≡ true → word_at text (run s0 n).pc ≡ Some word
        → ComesFromCompare text (list r) entry opens s0 n k word
    from_compare n k word live slot there jumps at =
        let node : Node = end_of_walk text (graph r) entry s0 n in
        comes_from r n node (known_outside r n node (tells n live) slot).1 k there jumps word at

-- ---- the laws

pub switches_are_compared : SwitchesAreCompared
unfolding entered_of
switches_are_compared text given entry s0 is valid fetches holds begins among n k word live slot there jumps at =
    from_compare (run_of text given entry s0 is valid fetches holds begins) among n k word live slot there jumps at

pub jumps_are_cases : JumpsAreCases
unfolding entered_of
jumps_are_cases text given entry s0 is valid fetches holds begins among =
    goes (run_of text given entry s0 is valid fetches holds begins) among

pub switch_walks_match : SwitchWalksMatch
unfolding entered_of
switch_walks_match text given entry s0 is valid fetches holds begins among n live =
    let t = tells (run_of text given entry s0 is valid fetches holds begins) among n live in
    (t.matches, t.inside)

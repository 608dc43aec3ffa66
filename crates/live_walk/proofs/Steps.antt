-- Each step of a run is a trip between points.
use Rattle.live_walk.proofs.Common.{arith, ◌≡◌, ℕ, ◌+◌, ◌-◌, ◌%◌, inl, inr, Bool, true, false, ◌==◌, List, slice_index, Option, Some, None, refl, ap, sym, subst, cond_both, Words, word_at, IsText, Part, Instr, decode_of, fetch_of, NoSlot, Taken, Untaken, State, within, end_at, Blocks, Open, Graph, graph_of, runs_slot, IsNodeIn, Node, point_of, edge_from, AreOpen, FetchesOnly, MatchesBy, word_at-some, IsCut, Point, At, ◌≢◌, not, with_register, sum_of, is_transfer, BlockEnd, way, transfers, branch_target, number_of, target_in, always, is_jump, end_is, transfer_ends, at, jumps_to, low, second, Stands, taken_is_one, untaken_is_one, not_never, not_always, leads_second, cases_Bool, Slot}
use Rattle.std.specs.Prelude.{if◌then◌else◌, ℤ}
use Rattle.v8_decode.specs.declared.Op2.{Op2}
use Rattle.eel_base.specs.declared.numbers.WordNo.{WordNo}
use Rattle.v8_alu.specs.Conditions.{holds_of}
use Rattle.v8_step.specs.declared.Ending.TheVariants.{Couple}
use Rattle.v8_step.specs.Transfers.{target_of, delayed, branched, unless_couple, branch_step, call_step, jump_step}
use Rattle.v8_step.specs.Step.{act, step_of}
use Rattle.v8_step.proofs.CopiedMoves.{goes_act}
use Rattle.cfg_walk.proofs.States.{couples}
use Rattle.v8_decode.specs.declared.Instr.TheVariants as i
use Rattle.cfg_blocks.specs.declared.BlockEnd.TheVariants as ends
use Rattle.cfg_blocks.specs.declared.EdgeKind.TheVariants as kinds
use Rattle.live_walk.proofs.Edges.{IsPointBy, TripBy, edge_trip, straight, into, out_trip}

abbrev pub IsPoint : Words → Graph → Node → State → Point → Type 0
IsPoint text graph node s q = IsPointBy text graph node (point_of s) s.slot q

-- an option that isn't None has a number
pub some_in : (o : Option ℕ) → (o ≡ None → ⊥) → (word : ℕ) × (o ≡ Some word)
some_in None h = absurd (h refl)
some_in (Some word) h = (word, refl)

-- a live state with a live one after it fetches a word
pub went : (s : State) → s.ending ≡ None → (step_of s).ending ≡ None → (word : ℕ) × (fetch_of s.memory s.pc ≡ Some word)
unfolding step_of
went s live after = some_in (fetch_of s.memory s.pc) (grind arith)

-- the word of the text that it fetches
pub word_here : (text : Words) (s : State) (word : ℕ) → FetchesOnly text s → fetch_of s.memory s.pc ≡ Some word
    → (w : ℕ) × (word_at text s.pc ≡ Some w) × (slice_index text.words w ≡ word)
word_here text s word fetches fetched =
    let same = fetches s.pc in
    let w = some_in (word_at text s.pc) (grind (arith, same, fetched)) in
    let some = w.1 in (w.0, w.1, grind (arith, same, fetched, some))

module _ {text : Words} {b : Blocks} (opens : List Open) (c : IsCut text b) (named : ℕ → List Part) (s : State)
    (node : Node) where
  abbrev graph : Graph
  graph = graph_of b opens

  module _ (e : s.slot ≡ NoSlot) (word : ℕ) where
    abbrev Out : State → Type 0
    Out t = TripBy text graph named node (point_of s) (point_of t) NoSlot t.slot (At node word)

    slot_is : (t : State) → t.slot ≡ NoSlot
        → TripBy text graph named node (point_of s) (point_of t) NoSlot NoSlot (At node word) → Out t
    slot_is t f h = rw f h

    -- a branch that annuls its slot completes its edge; any other goes into the slot
    branch : (cond : ℕ) (annul : Bool) (disp22 : ℤ) (holds all : Bool)
        → Stands text b opens node (point_of s) word (i.Branch cond annul disp22)
        → holds_of cond s.codes ≡ holds → (cond == always) ≡ all → Out (branched holds all annul s (target_of s disp22))
    branch cond true disp22 true true h holds all =
        let t : State = branched true true true s (target_of s disp22) in
        let target : Option WordNo = branch_target text word cond disp22 in
        let end : end_at text word ≡ ends.Branch cond true target = end_is text word _ h.decodes in
        let transfer : transfers (end_at text word) ≡ true = ap transfers end in
        let never = not_never cond s.codes holds in
        let goes = jumps_to h (point_of t) transfer target disp22 t.pc (ap target_in end) (rw never refl) refl in
        slot_is t e (edge_trip opens c named h (point_of t) (way kinds.Taken (number_of target))
        (transfer_ends text b opens c word (low h) transfer) (ap is_jump end) refl
        (rw end (taken_is_one b.words word cond true target never)) (cc (end, all))
        (ap (λ (x : Bool). edge_from graph node (if x then kinds.Taken else kinds.Untaken)) all) goes.0 goes.1)
    branch cond true disp22 false all h holds _ =
        let t : State = branched false all true s (target_of s disp22) in
        let target : Option WordNo = branch_target text word cond disp22 in
        let end : end_at text word ≡ ends.Branch cond true target = end_is text word _ h.decodes in
        let transfer : transfers (end_at text word) ≡ true = ap transfers end in
        let always = not_always cond s.codes holds in
        slot_is t e (edge_trip opens c named h (point_of t) (way kinds.Untaken (within b.words (word + 2)))
        (transfer_ends text b opens c word (low h) transfer) (ap is_jump end) refl
        (rw end (untaken_is_one b.words word cond true target always))
        (ap (λ (x : BlockEnd). runs_slot x kinds.Untaken) end)
        (ap (λ (x : Bool). edge_from graph node (if x then kinds.Taken else kinds.Untaken)) always) (second h)
        (leads_second h (point_of t) transfer))
    branch cond annul disp22 true false h _ _ =
        into opens c named h (point_of (branched true false annul s (target_of s disp22))) Taken (λ f. absurd (cc)) refl
    branch cond false disp22 true true h _ _ =
        into opens c named h (point_of (branched true true false s (target_of s disp22))) Taken (λ f. absurd (cc)) refl
    branch cond false disp22 false all h _ _ =
        into opens c named h (point_of (branched false all false s (target_of s disp22))) Untaken (λ f. absurd (cc)) refl

    jump : (rd rs1 : ℕ) (op2 : Op2) → Stands text b opens node (point_of s) word (i.Jmpl rd rs1 op2)
        → (jump_step s rd (sum_of s rs1 op2)).ending ≡ None → Out (jump_step s rd (sum_of s rs1 op2))
    unfolding jump_step
    jump rd rs1 op2 h =
        cond_both (sum_of s rs1 op2 % 4 == 0) _ _ (λ (t : State). t.ending ≡ None → Out t)
        (λ _ live. into opens c named h (point_of (delayed (with_register s rd s.pc) (sum_of s rs1 op2))) Taken (λ f. absurd (cc)) refl)
        (λ _ live. absurd (cc))

    outside : (instr : Instr) → Stands text b opens node (point_of s) word instr → (act s instr).ending ≡ None
        → Out (act s instr)
    unfolding act branch_step call_step
    outside (i.Branch cond annul disp22) h live =
        subst (λ (x : Slot). Out (unless_couple x s (branch_step s cond annul disp22))) (sym e)
        (branch cond annul disp22 (holds_of cond s.codes) (cond == always) h refl refl)
    outside (i.Call disp30) h live =
        subst (λ (x : Slot). Out (unless_couple x s (call_step s disp30))) (sym e)
        (into opens c named h (point_of (call_step s disp30)) Taken (λ f. absurd (cc)) refl)
    outside (i.Jmpl rd rs1 op2) h live =
        let t : State = jump_step s rd (sum_of s rs1 op2) in
        subst (λ (x : Slot). (unless_couple x s t).ending ≡ None → Out (unless_couple x s t)) (sym e)
        (jump rd rs1 op2 h) live
    outside instr h live =
        let went = goes_act s instr refl live in
        slot_is (act s instr) went.2 (straight opens c named h (point_of (act s instr)) refl went.0)

  -- in a slot
  in_slot : IsNodeIn b opens node → (x : Slot) → x ≢ NoSlot → s.slot ≡ x → (instr : Instr)
      → MatchesBy text graph node (point_of s) x → (act s instr).ending ≡ None → (q : Point)
      → IsPointBy text graph node (point_of s) x q
      → TripBy text graph named node (point_of s) (point_of (act s instr)) x (act s instr).slot q
  in_slot there x not e instr m live q p = elim (cases_Bool (is_transfer instr)) [
    | inl f ↦ let ended : (act s instr).ending ≡ Some Couple = couples x s instr not e f in absurd (cc)
    | inr f ↦
        let went = goes_act s instr f live in
        rw went.2 (out_trip opens c named node there (point_of s) x not m q p (point_of (act s instr)) went.0)
  ]

  -- at a word of the text, in a slot or not
  pub step_trip : IsText text → AreOpen b opens → IsNodeIn b opens node → (word : ℕ) (instr : Instr)
      → word_at text s.pc ≡ Some word → decode_of (slice_index text.words word) ≡ instr → (act s instr).ending ≡ None
      → (x : Slot) → s.slot ≡ x → MatchesBy text graph node (point_of s) x → (q : Point)
      → IsPointBy text graph node (point_of s) x q
      → TripBy text graph named node (point_of s) (point_of (act s instr)) x (act s instr).slot q
  step_trip is are there word instr at decodes live NoSlot e m q p =
      let word_is : word ≡ p.0 = cc (at, p.1) in
      let stands : Stands text b opens node (point_of s) word instr =
      assumption (is, c, word_at-some text s.pc word at, m.1, decodes, are, there, m.0) in
      rw (p.2, ← word_is) (outside e word instr stands live)
  step_trip is are there word instr at decodes live x e m q p =
      in_slot there x (λ f. absurd (cc)) e instr m live q p

-- The walk follows each step of the machine.
use Rattle.cfg_walk.proofs.Common.{◌≡◌, ◌≢◌, ℕ, ◌+◌, ◌-◌, ◌%◌, ◌^◌, List, Bool, true, false, not, ◌==◌, Option, Some, None, refl, ap, sym, ◌∙◌, subst, arith, slice_index, inl, inr, ℤ, option_map, cases_Bool, cond_both, Words, word_at, IsText, Op2, Instr, decode_of, holds_of, Ending, Slot, NoSlot, Taken, Untaken, State, with_register, sum_of, live_step, always, Blocks, EdgeKind, Node, home_of, IsNodeIn, Open, Graph, graph_of, node_of, point_of, instr_at, node_after, slot_left, way_of, AreOpen, FetchesOnly, GoesByCase, IsOnItsWay, MatchesBy, Matches, word_at-some}
use Rattle.v8_decode.specs.declared.Instr.TheVariants as i
use Rattle.v8_memory.specs.Regions.{fetch_of}
use Rattle.v8_alu.specs.Numbers.{wrapped}
use Rattle.v8_step.specs.declared.Ending.TheVariants.{Couple}
use Rattle.v8_step.specs.Transfers.{target_of, delayed, branched, unless_couple, branch_step, call_step, jump_step}
use Rattle.v8_step.specs.Step.{act, on_word, step_of, unless_ended}
use Rattle.v8_step.specs.Items.{is_transfer}
use Rattle.v8_step.proofs.CopiedMoves.{goes_act}
use Rattle.cfg_walk.proofs.Cut.{IsCut}
use Rattle.cfg_walk.proofs.Slots.{out_of_slot}
use Rattle.cfg_walk.proofs.Points.{Stands, StepsTo, straight_step}
use Rattle.cfg_walk.proofs.Transfers.{always_annulled, untaken_annulled, taken_delayed, untaken_delayed, call_delayed, jump_delayed}

-- The walk's node after a step from one state to another matches the second.
abbrev pub GoesTo : Words → Graph → Node → State → State → Type 0
GoesTo text graph node s t = StepsTo text graph node (point_of s) (point_of t) s.slot t.slot

at_slots : (text : Words) (graph : Graph) (node : Node) (s t : State) (was now : Slot)
    → s.slot ≡ was → t.slot ≡ now → StepsTo text graph node (point_of s) (point_of t) was now
    → GoesTo text graph node s t
at_slots text graph node s t was now e f h =
    subst (λ (x : Slot). StepsTo text graph node (point_of s) (point_of t) x t.slot) (sym e)
    (subst (λ (y : Slot). StepsTo text graph node (point_of s) (point_of t) was y) (sym f) h)

-- ---- a transfer in a slot ends the run

pub couples : (x : Slot) (s : State) (instr : Instr) → x ≢ NoSlot → s.slot ≡ x → is_transfer instr ≡ true
    → (act s instr).ending ≡ Some Couple
unfolding act
couples x s instr h e t = grind arith

-- a step out of a slot goes on where the transfer before leads
pub out_goes : (s : State) → (step_of s).ending ≡ None → s.slot ≢ NoSlot → (step_of s).pc ≡ s.npc
unfolding step_of
out_goes s live in_slot = by s.ending refl (fetch_of s.memory s.pc) refl live
  where
    acts : (instr : Instr) → (act s instr).ending ≡ None → (act s instr).pc ≡ s.npc
    acts instr live = elim (cases_Bool (is_transfer instr)) [
      | inr f ↦ (goes_act s instr f live).0
      | inl f ↦ let ended : (act s instr).ending ≡ Some Couple = couples s.slot s instr in_slot refl f in absurd (cc)
    ]

    by : (x : Option Ending) → s.ending ≡ x → (o : Option ℕ) → fetch_of s.memory s.pc ≡ o
        → (unless_ended s x (on_word s o)).ending ≡ None → (unless_ended s x (on_word s o)).pc ≡ s.npc
    by None e (Some word) f live = acts (decode_of word) live
    by None e None f live = absurd (cc)
    by (Some ending) e o f live = let ended : s.ending ≡ None = live in absurd (cc)

module _ (text : Words) (is : IsText text) (b : Blocks) (opens : List Open) (c : IsCut text b) (are : AreOpen b opens)
    (node : Node) (there : IsNodeIn b opens node) (s : State) where
  -- ---- in a slot

  -- the way of the transfer before
  abbrev way_in : Slot → EdgeKind
  way_in x = way_of (instr_at text (s.pc - 4)) x

  abbrev graph : Graph
  graph = graph_of b opens

  -- a step to npc, out of the slot
  leaves : (x : Slot) → x ≢ NoSlot → s.slot ≡ x → (t : State)
      → IsOnItsWay text graph node (point_of s) (way_in x)
      → t.pc ≡ s.npc → t.npc ≡ wrapped (s.npc + 4) → t.slot ≡ NoSlot
      → GoesTo text graph node s t
  leaves x not e t way pc npc slot = at_slots text graph node s t x NoSlot e slot (by x not way)
    where
      led : (k : EdgeKind) → IsOnItsWay text graph node (point_of s) k
          → home_of (node_after graph node (slot_left text graph node k t.pc)) ≡ node_of b (word_at text t.pc)
      led k way =
          let out : home_of (node_after graph node (slot_left text graph node k s.npc))
          ≡ node_of b (word_at text s.npc) =
          out_of_slot text b opens c node (point_of s) k way in
          rw pc out

      next : t.npc ≡ (t.pc + 4) % 2 ^ 32
      next = npc ∙ ap (λ a. wrapped (a + 4)) (sym pc)

      by : (x : Slot) → x ≢ NoSlot → IsOnItsWay text graph node (point_of s) (way_in x)
          → StepsTo text graph node (point_of s) (point_of t) x NoSlot
      by NoSlot not way = absurd (not refl)
      by Taken not way = (led (way_in Taken) way, next)
      by Untaken not way = (led (way_in Untaken) way, next)

  inside : (x : Slot) → x ≢ NoSlot → s.slot ≡ x → (instr : Instr)
      → IsOnItsWay text graph node (point_of s) (way_in x)
      → (act s instr).ending ≡ None → GoesTo text graph node s (act s instr)
  inside x not e instr way live = elim (cases_Bool (is_transfer instr)) [
    | inl t ↦ let ended : (act s instr).ending ≡ Some Couple = couples x s instr not e t in absurd (cc)
    | inr f ↦ let went = goes_act s instr f live in leaves x not e (act s instr) way went.0 went.1 went.2
  ]

  -- ---- outside

  module _ (e : s.slot ≡ NoSlot) (word : ℕ) where
    -- a jump that goes by case leads to a word of the table
    abbrev ByCase : State → Type 0
    ByCase t = GoesByCase text opens node (point_of s) (point_of t)

    straight : (instr : Instr) → Stands text b opens node (point_of s) word instr → is_transfer instr ≡ false
        → (act s instr).ending ≡ None → GoesTo text graph node s (act s instr)
    straight instr h f live =
        let t : State = act s instr in
        let went = goes_act s instr f live in
        at_slots text graph node s t NoSlot NoSlot e went.2
        (straight_step h (point_of t) f went.0 (went.1 ∙ ap (λ a. wrapped (a + 4)) (sym went.0)))

    branch : (cond : ℕ) (annul : Bool) (disp22 : ℤ) (holds all : Bool)
        → Stands text b opens node (point_of s) word (i.Branch cond annul disp22)
        → holds_of cond s.codes ≡ holds → (cond == always) ≡ all
        → GoesTo text graph node s (branched holds all annul s (target_of s disp22))
    branch cond true disp22 true true h holds all =
        let t : State = branched true true true s (target_of s disp22) in
        at_slots text graph node s t NoSlot NoSlot e e
        (always_annulled cond true disp22 s.codes h (point_of t) holds all refl refl)
    branch cond false disp22 true true h holds all =
        let t : State = branched true true false s (target_of s disp22) in
        at_slots text graph node s t NoSlot Taken e refl
        (taken_delayed cond false disp22 s.codes h (point_of t) holds refl refl refl)
    branch cond true disp22 true false h holds all =
        let t : State = branched true false true s (target_of s disp22) in
        at_slots text graph node s t NoSlot Taken e refl
        (taken_delayed cond true disp22 s.codes h (point_of t) holds (ap not all) refl refl)
    branch cond false disp22 true false h holds all =
        let t : State = branched true false false s (target_of s disp22) in
        at_slots text graph node s t NoSlot Taken e refl
        (taken_delayed cond false disp22 s.codes h (point_of t) holds refl refl refl)
    branch cond true disp22 false all h holds _ =
        let t : State = branched false all true s (target_of s disp22) in
        let npc : t.npc ≡ (t.pc + 4) % 2 ^ 32 = omega arith in
        at_slots text graph node s t NoSlot NoSlot e e
        (untaken_annulled cond true disp22 s.codes h (point_of t) holds refl npc)
    branch cond false disp22 false all h holds _ =
        let t : State = branched false all false s (target_of s disp22) in
        at_slots text graph node s t NoSlot Untaken e refl
        (untaken_delayed cond false disp22 s.codes h (point_of t) holds refl refl refl)

    jump : (rd rs1 : ℕ) (op2 : Op2) → Stands text b opens node (point_of s) word (i.Jmpl rd rs1 op2)
        → ByCase (jump_step s rd (sum_of s rs1 op2)) → (jump_step s rd (sum_of s rs1 op2)).ending ≡ None
        → GoesTo text graph node s (jump_step s rd (sum_of s rs1 op2))
    unfolding jump_step
    jump rd rs1 op2 h =
        cond_both (sum_of s rs1 op2 % 4 == 0) _ _
        (λ (t : State). ByCase t → t.ending ≡ None → GoesTo text graph node s t)
        (λ _ goes live.
        let t : State = delayed (with_register s rd s.pc) (sum_of s rs1 op2) in
        at_slots text graph node s t NoSlot Taken e refl
        (jump_delayed rd rs1 op2 (point_of t) h refl refl (λ cased. goes cased e refl)))
        (λ _ goes live. absurd (cc))

    outside : (instr : Instr) → Stands text b opens node (point_of s) word instr → ByCase (act s instr)
        → (act s instr).ending ≡ None → GoesTo text graph node s (act s instr)
    unfolding act branch_step call_step
    outside (i.Branch cond annul disp22) h goes live =
        let t : State = branch_step s cond annul disp22 in
        subst (λ (x : Slot). GoesTo text graph node s (unless_couple x s t)) (sym e)
        (branch cond annul disp22 (holds_of cond s.codes) (cond == 8) h refl refl)
    outside (i.Call disp30) h goes live =
        let t : State = call_step s disp30 in
        subst (λ (x : Slot). GoesTo text graph node s (unless_couple x s t)) (sym e)
        (at_slots text graph node s t NoSlot Taken e refl
        (call_delayed disp30 (point_of t) h refl refl))
    outside (i.Jmpl rd rs1 op2) h goes live =
        let t : State = jump_step s rd (sum_of s rs1 op2) in
        subst (λ (x : Slot). ByCase (unless_couple x s t) → (unless_couple x s t).ending ≡ None
        → GoesTo text graph node s (unless_couple x s t)) (sym e) (jump rd rs1 op2 h) goes live
    outside instr h goes live = straight instr h refl live

  -- ---- a step

  pub goes_on : s.ending ≡ None → FetchesOnly text s → Matches text graph node (point_of s)
      → GoesByCase text opens node (point_of s) (point_of (step_of s)) → (step_of s).ending ≡ None → GoesTo text graph node s (step_of s)
  unfolding step_of
  goes_on live fetches m goes after = by (word_at text s.pc) refl
    where
      acts : (word : ℕ) → word_at text s.pc ≡ Some word → (x : Slot) → s.slot ≡ x
          → MatchesBy text graph node (point_of s) x
          → GoesByCase text opens node (point_of s) (point_of (act s (decode_of (slice_index text.words word))))
          → (act s (decode_of (slice_index text.words word))).ending ≡ None
          → GoesTo text graph node s (act s (decode_of (slice_index text.words word)))
      acts word at NoSlot e m goes' live' =
          outside e word (decode_of (slice_index text.words word))
          (record {
            text_is = is;
            cut = c;
            is = word_at-some text s.pc word at;
            npc = m.1;
            decodes = refl;
            are = are;
            there = there;
            held = m.0;
          }) goes' live'
      acts word at Taken e m goes' live' = inside Taken (λ f. absurd (cc)) e _ m live'
      acts word at Untaken e m goes' live' = inside Untaken (λ f. absurd (cc)) e _ m live'

      by : (o : Option ℕ) → word_at text s.pc ≡ o → GoesTo text graph node s (step_of s)
      by None e =
          let none : fetch_of s.memory s.pc ≡ None =
          fetches s.pc ∙ ap (option_map (λ w. slice_index text.words w)) e in
          let ended : unless_ended s s.ending (on_word s (fetch_of s.memory s.pc)) ≡ on_word s None =
          ap (λ (x : Option Ending). unless_ended s x (on_word s (fetch_of s.memory s.pc))) live
          ∙ ap (on_word s) none in
          let trap : (on_word s None).ending ≡ None = ap (λ (t : State). t.ending) (sym ended) ∙ after in
          absurd (cc)
      by (Some word) e =
          let some : fetch_of s.memory s.pc ≡ Some (slice_index text.words word) =
          fetches s.pc ∙ ap (option_map (λ w. slice_index text.words w)) e in
          let went : step_of s ≡ act s (decode_of (slice_index text.words word)) =
          live_step s (slice_index text.words word) live some in
          subst (λ (t : State). GoesTo text graph node s t) (sym went)
          (acts word e s.slot refl m
          (subst (λ (t : State). GoesByCase text opens node (point_of s) (point_of t)) went goes) (ap (λ (t : State). t.ending) (sym went) ∙ after))

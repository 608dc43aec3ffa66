-- The images of transfers: the way of each edge leads into a slot, to a word's image, or out of the text. A JMPL chooses
-- a Case edge at the block itself of an open switch's jump, and else looks its target up.
use Rattle.image_code.proofs.Common.{◌≡◌, ◌≢◌, ◌-◌, true, false, Some, None, sym, ◌∙◌, arith, slice_index, false≢true, word_at, Instr, decode_of, Slot, NoSlot, Taken, State, EdgeKind, Blocks, blocks_of, word_at-some, has_cases, instr_at, node_after, point_of, way_of, same_kind, MatchesBy, Stands, gone_at, graph_in, way_out, ℕ, ◌+◌, ◌%◌, ◌^◌, inl, inr, Bool, not, Option, List, [], ◌∷◌, refl, ap, if◌then◌else◌, slice_get, ◌==◌, ℤ, Words, holds_of, wrapped, Untaken, act, always, never, end_at, within, holding_of, last_word, is_fall, is_jump, cases_Bool, same_Some, or_right, cond_both, Edge, Node, home_of, Open, jumps_in, graph_of, edge_from, block, end_is, end_here, PieceNo, node_is, branched, moved, branch_step, Way, number_of, way, ways_of, directed, edge_of, last_in, target_along, transfer_ends, way_found, IsOne, always_holds, Exit, OfWord, bare, goes_to, marked, target_from, branch_target, transfers, is_transfer, target_in, second_address, first_held, jumps_along, jumps_to, passes, quiet, LeadsIfThere, taken_delayed, untaken_delayed, never_holds, not_always, not_never, taken_is_one, untaken_is_one, at_point, does_at, enter_number, image_number, ◌<◌, nat_lt, and_parts, ltb-true, nat_tests, Op2, op2_in_range, operands_in_range, decoded_range, free_register, other_register, second_register, IsApart, is_one_of_four, first_free, next_free, IsNotIn, sum_of, target_of, Graph, words_of, with_register, call_step, delayed, jump_delayed, jump_step, call_delayed, find_words, flat_map, zero, suc, ◌*◌, length, take, sum_by, eq-eqb, lt-ltb, length-map, sum_by-cons, slice_get-map, slice_get_within, ends_block_after, next_word, table_word, choice_at, saved_address, IsTarget, IsCaseBlock, in_targets, case_table, distance_of, or_zero, case_numbers, case_piece, cases_of, first_entry, jump_number, Chooses, IsChosen, block_of}
use Rattle.v8_decode.specs.declared.Instr.TheVariants as i
use Rattle.cfg_blocks.specs.declared.BlockEnd.TheVariants as ends
use Rattle.cfg_blocks.specs.declared.EdgeKind.TheVariants as kinds
use Rattle.cfg_normal.specs.Graph.{runs_slot}
use Rattle.cfg_walk.proofs.Edges.{IsEdge, leads_along, node_at}
use Rattle.switch_runs.proofs.CaseBlocks.{some_of}
use Rattle.image_code.specs.declared.shape.Exit.TheVariants as exits
use Rattle.image_code.specs.declared.shape.Head.TheVariants as heads
use Rattle.image_code.specs.Made.{first_word, goes_on, jump_by, jump_image_by, jumps_at, nop_word, visit_of, way_out}
use Rattle.image_code.proofs.Points.{entered_at}
use Rattle.image_code.proofs.PointShapes.{IsBranching, IsCall, IsCase, IsJmpl, IsJump, IsNoJumpsSlot, IsOutside, IsSwitchJump, LeadsNext, LeadsTo, conditional, unconditional}
use Rattle.image_code.proofs.CaseTables.{known_at, along_far, way_at}
use Rattle.image_code.proofs.Operands.{operand_fits}
use Rattle.image_code.proofs.Positions.{any_at, contains, get_first, get_past}
use Rattle.image_code.proofs.Visited.{AtWord, GoesThere, InSlot, at_image, case_piece_is, entered_slot, enters, goes_on_there, image_shape, left_gone, nothing_gone, shapes, site, slotted, target, way_in, word_is}

-- a branch comes to a taken transfer's slot only at the next instruction
slot_next : (flag all annul : Bool) (s : State) (to : ℕ) → s.slot ≡ NoSlot
    → (branched flag all annul s to).slot ≡ Taken → (branched flag all annul s to).pc ≡ s.npc
slot_next flag all annul s to none e = grind arith

moved_by : (flag all annul : Bool) (s : State) (to : ℕ)
    → let u = branched flag all annul s to in u ≡ moved u.pc u.npc u.slot s
moved_by flag all annul s to = grind arith

-- a node's block begins with the word to which an edge leads
goes_there : (text : Words) (b : Blocks) (opens : List Open) (from : Node) (kind : EdgeKind) (k to address : ℕ)
    → slice_index b.firsts k ≡ to
    → goes_on text (graph_of b opens) (directed opens from kind (block k))
    (first_word (graph_of b opens) (directed opens from kind (block k))) address
    ≡ goes_to (enter_number text (graph_of b opens) (directed opens from kind (block k)) to)
goes_there text b opens from kind k to address e = grind (arith, cond_both)

-- registers that are free
abbrev IsFree : ℕ → ℕ → ℕ → ℕ → ℕ → Type 0
IsFree n a b c d = (0 < n) × (n < 6) × (a ≢ n) × (b ≢ n) × (c ≢ n) × (d ≢ n)

first_is_free : (a b c : ℕ) → IsFree (first_free a b c) a b c 0
first_is_free a b c = grind (arith, nat_tests)

-- the second one
next_is_free : (a b c d : ℕ) → IsFree (next_free a b c d) a b c d
next_is_free a b c d =
    let is_free : ℕ → Type 0 = λ n. IsFree n a b c d in
    cond_both (not (is_one_of_four 1 a b c d)) _ _ is_free (λ e. grind (e, arith, nat_tests))
    (λ one. cond_both (not (is_one_of_four 2 a b c d)) _ _ is_free (λ e. grind (e, arith, nat_tests))
    (λ two. cond_both (not (is_one_of_four 3 a b c d)) _ _ is_free (λ e. grind (e, arith, nat_tests))
    (λ three. cond_both (not (is_one_of_four 4 a b c d)) _ _ is_free (λ e. grind (e, arith, nat_tests))
    (λ four. grind (one, two, three, four, arith, nat_tests)))))

not_in : (number : ℕ) (op2 : Op2) → op2_in_range op2 ≡ true → second_register op2 ≢ number → IsNotIn number op2
not_in number op2 range other = grind (arith, nat_tests)

abbrev jmpl_is : (word rd rs1 : ℕ) (op2 : Op2) → decode_of word ≡ i.Jmpl rd rs1 op2 → IsJmpl rd rs1 op2
jmpl_is word rd rs1 op2 says =
    let parts = and_parts (nat_lt rd 32) (operands_in_range rs1 op2)
    (decoded_range (i.Jmpl rd rs1 op2) word (sym says)) in
    let more = and_parts (nat_lt rs1 32) (op2_in_range op2) parts.1 in
    let next = next_is_free rd rs1 (second_register op2) (free_register rd rs1 op2) in
    let apart : (number other : ℕ) → IsFree number rd rs1 (second_register op2) other → IsApart number rd rs1 op2 =
    λ number other is.
    let below : number < 32 = omega (arith, is.1) in
    assumption (below, ltb-true rd 32 parts.0, ltb-true rs1 32 more.0, not_in number op2 more.1 is.4) in
    let first = apart _ _ (first_is_free rd rs1 (second_register op2)) in
    let other = apart _ _ next in
    let fits = operand_fits word _ says in
    record { scratch = _; apart = first; second = _; other = other; differ = next.5; fits = fits; in_range = more.1 }

-- where no Case edges leave a node, a jump looks its target up
jump_plain : (text : Words) (graph : Graph) (jumps cases : ℕ) (visit : OfWord) (node : Node) (rd rs1 : ℕ) (op2 : Op2)
    → has_cases graph.opens node ≡ false
    → jump_image_by text graph jumps cases visit node rd rs1 op2 ≡ jump_by text graph jumps cases visit node rd rs1 op2
jump_plain text graph jumps cases visit node rd rs1 op2 e = grind arith

-- the numbers of Case edges' pieces, by entries
case_number_at : (text : Words) (graph : Graph) (opens : List Open) (k : ℕ) (o : Open) → slice_get opens k ≡ Some o
    → (entry word : ℕ) → slice_get o.targets entry ≡ Some word
    → slice_get (flat_map (cases_of text graph) opens) (sum_by (λ (q : Open). length q.targets) (take k opens) + entry)
    ≡ Some (case_piece text graph o.block word)
case_number_at text graph [] k o e entry word at = absurd (cc)
case_number_at text graph (q ∷ opens) zero o e entry word at =
    let same : q ≡ o = cc in
    let there : 0 + entry ≡ entry = omega arith in
    get_first (cases_of text graph q) _ (0 + entry) _
    (rw (there, same, slice_get-map (case_piece text graph o.block) o.targets entry, at))
case_number_at text graph (q ∷ opens) (suc k) o e entry word at =
    get_past (cases_of text graph q) _ _ (sum_by (λ (r : Open). length r.targets) (take k opens) + entry) _
    (simp (sum_by-cons, length-map) (omega arith))
    (case_number_at text graph opens k o e entry word at)

module _ (visit : AtWord) where
  open visit use {edit, node, x, word, at, none, there, npc, inside, cut, low, home, edit.{g, is, p, f, cases, tables.{behind}}}

  abbrev b : Blocks
  b = blocks_of g.text g.given

  -- the piece of its image
  abbrev number : ℕ
  number = image_number g.text (graph_in g) node word

  outside : IsOutside x
  outside = let w = word_at-some g.text x.pc word at in record { none = none; next = npc; low = omega arith }

  -- into a slot
  module _ (instr : Instr) (says : decode_of (slice_index g.text.words word) ≡ instr) where
    stands : Stands g.text b g.switches node x word instr
    stands = assumption (word_at-some g.text x.pc word at)

    before : (v : State) → v.pc ≡ x.npc → instr_at g.text (v.pc - 4) ≡ Some instr
    before v pc =
        let w = word_at-some g.text x.pc word at in
        let back : v.pc - 4 ≡ x.pc = omega arith in
        rw (back, at, says)

    -- the way of the edge leads to the slot
    abbrev LeadsThere : EdgeKind → State → Type 0
    LeadsThere kind v =
        LeadsTo (site edit) (record { 0 = way_out g.text (graph_in g) node kind }) (gone_at g node x v)
        (word_at g.text v.pc)
        (entered_at (site edit) (node_after (graph_in g) node (gone_at g node x v)) (point_of v))

    entered : (v : State) → v.ending ≡ None → v.pc ≡ x.npc → (now : Slot) → v.slot ≡ now → now ≢ NoSlot
        → (same_kind (way_of (Some instr) now) kinds.Out ≡ true → has_cases g.switches node ≡ false)
        → MatchesBy g.text (graph_in g) node (point_of v) now → LeadsThere (way_of (Some instr) now) v
    entered v live pc now slot some caseless m =
        let same : way_of (instr_at g.text (v.pc - 4)) v.slot ≡ way_of (Some instr) now = rw (before v pc, slot) in
        rw (nothing_gone g node x v none (λ n. some (sym slot ∙ n)) live)
        (enters (slotted edit node (point_of v) now slot some m) (λ out. caseless (rw same at out))
        (way_of (Some instr) now) same)

    -- it is no JMPL's
    no_jump : (v : State) → (v.slot ≡ Taken → v.pc ≡ x.npc) → same_kind (way_of (Some instr) Taken) kinds.Out ≡ false
        → IsNoJumpsSlot g v
    no_jump v pc other slot out = absurd (false≢true (sym other ∙ rw (before v (pc slot), slot) at out))

  -- a branch
  module _ (cond : ℕ) (annul : Bool) (disp : ℤ)
      (says : decode_of (slice_index g.text.words word) ≡ i.Branch cond annul disp) where
    abbrev branch : Instr
    branch = i.Branch cond annul disp

    here : Stands g.text b g.switches node x word branch
    here = stands branch says

    end : end_at g.text word ≡ ends.Branch cond annul (branch_target g.text word cond disp)
    end = end_is g.text word branch says

    transfer : transfers (end_at g.text word) ≡ true
    transfer = ap transfers end

    -- the way of an edge on which no slot is run
    module _ (w : Way) (one : IsOne w (ways_of b.words word (end_at g.text word)))
        (skips : runs_slot (end_at g.text word) w.kind ≡ false) (fall : is_fall w.kind ≡ false)
        (land : same_kind w.kind kinds.Land ≡ false) (no_case : same_kind w.kind kinds.Case ≡ false) where
      abbrev goal_address : ℕ
      goal_address = target_along g.text word w.kind branch

      last : word ≡ last_word b.firsts b.words (holding_of b word)
      last = transfer_ends g.text b g.switches cut word low transfer

      abbrev edge : Edge
      edge = edge_of b g.switches node (holding_of b word) w

      -- no open switch's jump is a branch
      found : IsEdge (graph_in g) (edge_from (graph_in g) node w.kind) edge
      found =
          way_found g.text b g.switches cut word low is.cased.jumps node there home w last
          (quiet here transfer (ap is_jump end)) one

      abbrev way_on : Exit
      way_on = goes_on g.text (graph_in g) edge.to (first_word (graph_in g) edge.to) goal_address

      bare_shape : slice_get (shapes edit) (way_out g.text (graph_in g) node w.kind)
          ≡ Some (bare (found.number ∷ []) way_on)
      bare_shape =
          let ended = end_here g.text b g.switches cut word low last in
          let last_there : last_in (graph_in g) node ≡ word =
          elim (node_at node (holding_of b word) home) [ inl here ↦ rw (here, ← last) | inr there ↦ rw (there, ← last) ] in
          rw found.only (way_at g is f.table.base f.cases.base found.number edge found.is land
          ∙ rw (fall, no_case, ended, skips, last_there, says))

      bare_goes : (pc : ℕ) (o : Option ℕ) → word_at g.text pc ≡ o → o ≡ w.to → LeadsIfThere b w.to → pc ≡ goal_address
          → GoesThere edit edge.to pc way_on
      bare_goes pc None e to leads far =
          inl (e, rw far (along_far g.text word w.kind branch is.text inside), rw (← to, far))
      bare_goes pc (Some other) e to leads far =
          let target = leads other (sym to) in
          let first = first_held b.words b.firsts cut.firsts other target.1 in
          inr (other, e, rw (← to, node_is b other target.0) (goes_there g.text b g.switches node w.kind _ other _ first))

      -- past a slot that is annulled
      past : (if cond == always then kinds.Taken else kinds.Untaken) ≡ w.kind → (v : State) → v.ending ≡ None
          → v.slot ≡ NoSlot → word_at g.text v.pc ≡ w.to → LeadsIfThere b w.to → v.pc ≡ goal_address
          → LeadsThere branch says w.kind v
      past kind_is v live slot to leads pc =
          let along : gone_at g node x v ≡ edge_from (graph_in g) node w.kind =
          left_gone g node x v none slot live word at branch says ∙ rw kind_is in
          let after : node_after (graph_in g) node (gone_at g node x v) ≡ edge.to =
          rw along (leads_along (graph_in g) node (edge_from (graph_in g) node w.kind) edge found) in
          let shape = bare_shape ∙ ap (λ (edges : List ℕ). Some (bare edges way_on)) (sym (along ∙ found.only)) in
          let on = goes_on_there edit edge.to (point_of v) (way_out g.text (graph_in g) node w.kind) way_on slot
          (bare_goes v.pc _ refl to leads pc) in
          rw after (inr (way_on, shape, on))

    -- each way that the branch goes
    module _ (t : State) (live : t.ending ≡ None) where
      abbrev to : ℕ
      to = target_from (at_point x t) disp

      abbrev after : Bool → Bool → Bool → State
      after flag all ann = branched flag all ann (at_point x t) to

      goes : (flag all ann : Bool) → holds_of cond t.codes ≡ flag → (cond == always) ≡ all → annul ≡ ann
          → LeadsThere branch says (if flag then kinds.Taken else kinds.Untaken) (after flag all ann)
      goes true true true holds all annulled =
          let other = not_never cond t.codes holds in
          let target = branch_target g.text word cond disp in
          let at_head = point_of (after true true true) in
          let there = jumps_to here at_head transfer target disp to (ap target_in end) (rw other) refl in
          past (way kinds.Taken (number_of target)) (rw end (taken_is_one b.words word cond annul target other))
          (rw (end, annulled, all)) refl refl refl (rw all) (after true true true) live none there.0 there.1
          (jumps_along here at_head transfer disp to refl)
      goes false all true holds _ annulled =
          let other = not_always cond t.codes holds in
          let pc = wrapped (x.pc + 8) in
          let there = passes here (record { pc = x.pc; npc = (x.npc + 4) % 2 ^ 32; slot = NoSlot }) transfer refl in
          let far : pc ≡ (x.npc + 4) % 2 ^ 32 = omega arith in
          past (way kinds.Untaken (within b.words (word + 2)))
          (rw end (untaken_is_one b.words word cond annul (branch_target g.text word cond disp) other))
          (rw (end, annulled)) refl refl refl (rw other) (after false all true) live none (rw far there.0) there.1
          (rw (word_at-some g.text x.pc word at).is (second_address g.text word is.text inside))
      goes false all false holds _ kept =
          entered branch says (after false all false) live refl Untaken refl (λ n. absurd (cc)) (λ out. absurd (cc))
          (untaken_delayed cond annul disp t.codes here (point_of (after false all false)) holds kept refl refl)
      goes true true false holds _ kept =
          entered branch says (after true true false) live refl Taken refl (λ n. absurd (cc)) (λ out. absurd (cc))
          (taken_delayed cond annul disp t.codes here (point_of (after true true false)) holds (rw kept) refl refl)
      goes true false ann holds all _ =
          entered branch says (after true false ann) live refl Taken refl (λ n. absurd (cc)) (λ out. absurd (cc))
          (taken_delayed cond annul disp t.codes here (point_of (after true false ann)) holds
          (or_right (not annul) _ (rw all)) refl refl)

      acts : does_at g x t ≡ after (holds_of cond t.codes) (cond == always) annul
      unfolding act branch_step
      acts = rw (word_is g x word at, says, none)

      leads : (flag : Bool) → holds_of cond t.codes ≡ flag
          → LeadsThere branch says (if flag then kinds.Taken else kinds.Untaken) (does_at g x t)
      leads flag holds = rw (acts, holds) (goes flag (cond == always) annul holds refl refl)

      turns : IsBranching (site edit) x t (slice_index g.text.words word)
      turns = record {
        transfer = ap is_transfer says;
        moves = rw acts (moved_by (holds_of cond t.codes) (cond == always) annul (at_point x t) to);
        never = no_jump branch says (does_at g x t) (λ slot. rw acts (slot_next (holds_of cond t.codes) (cond == always)
            annul (at_point x t) to none (rw acts at slot))) refl;
      }

      -- its image
      one_way : (kind : EdgeKind) → slice_get (shapes edit) number ≡ Some (marked (visit_of g.text (graph_in g) node word)
          (heads.Word nop_word) [] (goes_to (way_out g.text (graph_in g) node kind)))
          → LeadsThere branch says kind (does_at g x t) → IsCase (site edit) node x t
      one_way kind found leads_there =
          let way : PieceNo = record { 0 = way_out g.text (graph_in g) node kind } in
          let mark = at_image visit (λ _ _. heads.Word nop_word) [] (goes_to way.0) found in
          unconditional (record { way = way; mark = mark; goes = turns; leads = leads_there })

      pub branch_case : IsCase (site edit) node x t
      branch_case = elim (cases_Bool (cond == always)) [
        | inl a ↦ one_way kinds.Taken (image_shape visit branch says ∙ rw a) (leads true (always_holds cond t.codes a))
        | inr a ↦ elim (cases_Bool (cond == never)) [
          | inl n ↦
              one_way kinds.Untaken (image_shape visit branch says ∙ rw (a, n)) (leads false (never_holds cond t.codes n))
          | inr n ↦
              let taken : PieceNo = record { 0 = way_out g.text (graph_in g) node kinds.Taken } in
              let untaken : PieceNo = record { 0 = way_out g.text (graph_in g) node kinds.Untaken } in
              let low = ltb-true cond 16 (decoded_range branch _ (sym says)) in
              let m = at_image visit (λ _ _. heads.Branch cond taken) [] (goes_to untaken.0)
              (image_shape visit branch says ∙ rw (a, n)) in
              let on = cond_both (holds_of cond t.codes) taken untaken (λ way. LeadsNext (site edit) way node x t)
              (leads true) (leads false) in
              conditional (record { cond = _; small = low; taken = _; untaken = _; mark = m; goes = turns; leads = on })
        ]
      ]

  -- a CALL
  module _ (t : State) (live : t.ending ≡ None) (disp : ℤ)
      (says : decode_of (slice_index g.text.words word) ≡ i.Call disp) where
    abbrev called : State
    called = delayed (with_register (at_point x t) 15 x.pc) (target_of (at_point x t) disp)

    call_acts : does_at g x t ≡ called
    unfolding act call_step
    call_acts = rw (word_is g x word at, says, none)

    pub call_is : IsCall (site edit) node x t
    call_is =
        let way : PieceNo = record { 0 = way_out g.text (graph_in g) node kinds.Call } in
        let mark = at_image visit (λ _ _. heads.Call) [] (goes_to way.0) (image_shape visit (i.Call disp) says) in
        let on : LeadsThere (i.Call disp) says kinds.Call (does_at g x t) =
        rw call_acts (entered (i.Call disp) says called live refl Taken refl (λ n. absurd (cc)) (λ out. absurd (cc))
        (call_delayed disp (point_of called) (stands (i.Call disp) says) refl refl)) in
        let never = no_jump (i.Call disp) says (does_at g x t) (λ _. rw call_acts) refl in
        record { none = none; low = outside.low; disp = _; says = says; way = way; mark = mark; leads = on; never = never }

  -- a JMPL
  module _ (t : State) (rd rs1 : ℕ) (op2 : Op2) (says : decode_of (slice_index g.text.words word) ≡ i.Jmpl rd rs1 op2) where
    abbrev jmpl : Instr
    jmpl = i.Jmpl rd rs1 op2

    abbrev v : State
    v = does_at g x t

    jump_goes : v.ending ≡ None → (v.pc ≡ x.npc) × (v.slot ≡ Taken)
    unfolding act jump_step
    jump_goes =
        rw (word_is g x word at, says, none) (cond_both (sum_of (at_point x t) rs1 op2 % 4 == 0) _ _
        (λ (z : State). z.ending ≡ None → (z.pc ≡ x.npc) × (z.slot ≡ Taken)) (λ _ _. (refl, refl)) (λ _ h. absurd (cc)))

    -- its target is looked up
    pub jump_is : has_cases g.switches node ≡ false → IsJump (site edit) node x t
    jump_is caseless =
        let way : PieceNo = record { 0 = way_out g.text (graph_in g) node kinds.Out } in
        let plain = jump_plain g.text (graph_in g) (jumps_at g.text f.table.base) f.cases.base
        (visit_of g.text (graph_in g) node word) node rd rs1 op2 caseless in
        let m = at_image visit (λ _ _. heads.LookUp (words_of (find_words (free_register rd rs1 op2)
        (other_register rd rs1 op2) rs1 op2 f.halves.base)) rd) [] (goes_to way.0)
        (image_shape visit jmpl says ∙ rw (behind, plain) refl) in
        let on = λ (live : v.ending ≡ None). (let w = jump_goes live in entered jmpl says v live w.0 Taken w.1
        (λ n. absurd (cc)) (λ _. caseless) (jump_delayed rd rs1 op2 (point_of v) (stands jmpl says) w.0 w.1
        (λ e. absurd (false≢true (sym caseless ∙ e))))) in
        let k = jmpl_is (slice_index g.text.words word) rd rs1 op2 says in
        record { outside = outside; rd = _; rs1 = _; op2 = _; says = says; jmpl = k; way = way; mark = m; leads = on }

    -- at the jump's block itself of an open switch: the Case edge that it chooses leads to the slot
    module _ (chooses : Chooses g node x t v) (k : ℕ) (o : Open) (among : slice_get g.switches k ≡ Some o)
        (numbered : jump_number (graph_in g).opens o.block ≡ Some k) (jumping : jumps_in g.switches o.block ≡ true)
        (itself : node ≡ block o.block) where
      block_is : IsCaseBlock g.text b o
      block_is = is.cased.each k o among

      -- it is the jump that ends the block
      jump_is_last : word ≡ o.approach.jump
      jump_is_last =
          transfer_ends g.text b g.switches cut word low (ap ends_block_after (end_is g.text word jmpl says))
          ∙ ap (last_word b.firsts b.words) (ap block_of (sym home ∙ ap home_of itself)) ∙ sym block_is.last

      chosen : IsChosen g (case_table g.text o) t v
      chosen =
          chooses k (case_table g.text o) (known_at g is.known k o among)
          (record { itself = itself; outside = none; stands = at ∙ ap (λ (n : ℕ). Some n) jump_is_last })

      from_is : or_zero (word_at g.text o.switch.table.0) ≡ block_is.table.begins
      from_is = ap or_zero block_is.table.at

      its_target : (to : ℕ) × (word_at g.text (slice_index g.text.words (block_is.table.begins + chosen.entry)) ≡ Some to)
      its_target = some_of _ (block_is.table.leads chosen.entry chosen.below)

      targeted : slice_get o.targets chosen.entry ≡ Some its_target.0
      targeted = block_is.targets chosen.entry chosen.below ∙ its_target.1

      goes_on_to : word_at g.text v.npc ≡ Some its_target.0
      goes_on_to = rw (chosen.goes, from_is) its_target.1

      -- the word that has the piece's address
      abbrev first : ℕ
      first = first_entry g.text (graph_in g) k

      abbrev distance : ℕ
      distance = distance_of f.cases.base first o.switch.table.0

      number_at : slice_get (case_numbers g.text (graph_in g)) (first + chosen.entry)
          ≡ Some (case_piece g.text (graph_in g) o.block its_target.0)
      number_at = case_number_at g.text (graph_in g) g.switches k o among chosen.entry its_target.0 targeted

      many : first + chosen.entry < length (case_numbers g.text (graph_in g))
      many = slice_get_within (case_numbers g.text (graph_in g)) (first + chosen.entry) _ number_at

      place_is : choice_at distance t ≡ f.cases.base + 4 * (first + chosen.entry)
      place_is =
          let w = word_at-some g.text o.switch.table.0 block_is.table.begins block_is.table.at in
          let kept : saved_address t ≡ o.switch.table.0 + 4 * chosen.entry = omega (arith, w.is, from_is, chosen.kept) in
          rw kept (omega (arith, w.within, w.is, is.text.below, many, cases.low, cases.long))

      -- into the slot, along the Case edge
      went : (v.pc ≡ x.npc) × (v.slot ≡ Taken)
      went = jump_goes chosen.live

      not_none : v.slot ≢ NoSlot
      not_none n = let q : Taken ≡ NoSlot = sym went.1 ∙ n in absurd (cc)

      is_target : IsTarget g.text g.switches node v.npc
      is_target =
          let any = in_targets (λ (y : ℕ). y == its_target.0) g.switches o o.block (contains g.switches k o among) refl
          (any_at _ o.targets chosen.entry its_target.0 targeted (eq-eqb its_target.0 its_target.0 refl)) in
          rw itself (its_target.0, goes_on_to, any)

      cased : has_cases g.switches node ≡ true
      cased = ap (has_cases g.switches) itself ∙ jumping

      abbrev in_slot : InSlot
      in_slot =
          slotted edit node (point_of v) Taken went.1 (λ q. absurd (cc))
          (jump_delayed rd rs1 op2 (point_of v) (stands jmpl says) went.0 went.1 (λ _. is_target))

      out : same_kind (way_in edit (point_of v)) kinds.Out ≡ true
      out = rw (before jmpl says v went.0)

      its_piece : case_piece g.text (graph_in g) (target in_slot out cased).o.block (target in_slot out cased).word
          ≡ case_piece g.text (graph_in g) o.block its_target.0
      its_piece =
          let r = target in_slot out cased in
          let one : r.o ≡ o = is.cased.one r.k k r.o o r.among among (ap block_of (sym r.itself ∙ itself)) in
          rw (one, same_Some _ _ (sym r.goes ∙ goes_on_to)) refl

      gone_nothing : gone_at g node x v ≡ []
      gone_nothing = nothing_gone g node x v none not_none chosen.live

      pub choice_case : IsSwitchJump (site edit) node x t
      choice_case =
          let w = word_at-some g.text x.pc word at in
          let place = place_is in
          let slot_there : word_at g.text v.pc ≡ Some (word + 1) =
          ap (word_at g.text) (went.0 ∙ npc) ∙ next_word g.text x.pc word is.text w
          ∙ rw (lt-ltb (word + 1) (length g.text.words) (omega (arith, jump_is_last, block_is.behind))) in
          record {
            outside = outside;
            cased = λ none. none k (case_table g.text o) (known_at g is.known k o among) itself;
            rd = rd;
            rs1 = rs1;
            op2 = op2;
            says = says;
            register = (jmpl_is (slice_index g.text.words word) rd rs1 op2 says).apart.rd_below;
            distance = distance;
            near = omega arith;
            mark =
                at_image visit (λ _ _. heads.SwitchJump rd distance) [] exits.Behind
                (image_shape visit jmpl says ∙ rw (itself, jumping, numbered, among));
            aligned = omega (arith, place, cases.aligned);
            from = omega (arith, place);
            to = omega (arith, place, cases.long, many);
            below = omega (arith, place, cases.long, many, cases.low);
            way = case_piece g.text (graph_in g) o.block its_target.0;
            has = ap (table_word f.cases) place ∙ cases.words (first + chosen.entry) _ number_at;
            live = chosen.live;
            nothing = gone_nothing;
            leads =
                rw gone_nothing
                (ap (slice_index p.at) (sym (case_piece_is in_slot out cased ∙ its_piece))
                ∙ sym (entered_slot edit node (point_of v) (word + 1) slot_there not_none));
          }

-- The copies of slots' words go on to where the edge leads, or look a JMPL's target up. A transfer ends the run.
use Rattle.image_code.proofs.Common.{◌≡◌, ◌≢◌, ℕ, ◌%◌, ◌^◌, ◌<◌, inl, inr, Bool, true, false, Option, Some, None, List, [], ◌∷◌, length, refl, ap, sym, ◌∙◌, subst, arith, ◌==◌, if◌then◌else◌, slice_get, slice_index, cases_Bool, eqb-true, false≢true, address_of, word_at, Addr, PieceNo, decode_of, NoSlot, State, is_transfer, Blocks, blocks_of, word_at-some, Node, X, has_cases, lands, node_after, point_of, slot_left, same_kind, lands_as, same_kinds, page_word, landed, last_in, Exit, Head, goes_to, marked, edge_landing, Begins, way_address, home_lands, lands_in, node_is, jump_lands, memory_word-range, does_at, gone_at, graph_in, operations_on, HasNoCases, Foreign, Landing, enter_number, foreign_number, landing_number, is_out}
use Rattle.cfg_blocks.specs.declared.EdgeKind.TheVariants as kinds
use Rattle.image_code.specs.declared.shape.Exit.TheVariants as exits
use Rattle.image_code.specs.declared.shape.Head.TheVariants as heads
use Rattle.image_code.proofs.Points.{AtVisitIn, entered_at}
use Rattle.image_code.proofs.PointShapes.{IsMarked, IsMarkedWord, IsJumpTarget, Reaches, Lands, IsCase, plain, couple, landing as jumps_slot}
use Rattle.image_code.proofs.CaseTables.{table_of, along_far, cut_in, facts}
use Rattle.image_code.proofs.Heads.{HasCopy, by_cases, case_copy, copy_visited, plain_copy}
use Rattle.image_code.proofs.ImageNumbers.{enter_at, has_image}
use Rattle.image_code.proofs.Listed.{foreign_stands, jump_of, landing_stands, shape_at}
use Rattle.image_code.proofs.Visited.{AtSlot, PlacedEdit, GoesThere, goes_on_there, goes_straight, site, case_kind, edge_is, entered_word, kind_is, marked_at, shapes, slot_gone, target, way_in, word_is}
use Rattle.image_code.proofs.Routes.{shape_within}
use Rattle.image_code.specs.Made.{first_word, goes_on, visit_of}
use Rattle.cfg_walk.proofs.Slots.{lands_not}

-- where control goes on at a node that begins at an address, or outside the text
leads_on : (edit : PlacedEdit) (node : Node) (pc : ℕ) (o : Option ℕ) → word_at edit.g.text pc ≡ o
    → Begins (graph_in edit.g) node o → IsJumpTarget pc → GoesThere edit node pc
    (goes_on edit.g.text (graph_in edit.g) node (first_word (graph_in edit.g) node) pc)
leads_on edit X pc None e begins far = inl (e, far, refl)
leads_on edit X pc (Some word) e begins far = absurd begins
leads_on edit _ pc None e begins far = absurd begins
leads_on edit node pc (Some word) e begins far =
    inr (word, e, ap (λ (n : ℕ). goes_to (enter_number edit.g.text (graph_in edit.g) node n)) begins)

module _ (at_slot : AtSlot) (t : State) (here : AtVisitIn (site at_slot.edit) at_slot.node at_slot.x t) where
  open at_slot use {in_slot, edit, node, x, not, way, slot, at, edit.{g, is, p, f, tables}}

  abbrev b : Blocks
  b = blocks_of g.text g.given

  abbrev word : ℕ
  word = slice_index g.text.words slot

  module _ (piece to : ℕ) (copy : HasCopy at_slot piece to) where
    abbrev at_copy : (head : Addr → ℕ → Head) (edges : List ℕ) (exit : Exit)
        → slice_get (shapes edit) piece ≡ Some (marked (visit_of g.text (graph_in g) node slot)
        (head (record { 0 = address_of g.text slot }) word) edges exit) → IsMarked (site edit) node x head edges exit
    at_copy = marked_at edit node x slot at piece (copy_visited at_slot piece to copy)

    by_word : (is_transfer (decode_of word) ≡ false → IsCase (site edit) node x t) → IsCase (site edit) node x t
    by_word otherwise = elim (cases_Bool (is_transfer (decode_of word))) [
      | inl e ↦
          let mark = at_copy (λ _ _. heads.Couple) [] exits.Behind (copy.shape ∙ rw e) in
          couple (record { slot = not; mark = mark; transfer = e })
      | inr e ↦ otherwise e
    ]

    -- a word that is no transfer
    module _ (straight : is_transfer (decode_of word) ≡ false) where
      -- where the edge leads on: out of the text, or to the word's image at the edge's node
      abbrev on_there : Exit
      on_there = goes_on g.text (graph_in g) way.edge.to to (way_address g.text (graph_in g) way.edge.from way.edge.kind)

      abbrev its_mark : (out : Bool) → same_kind way.edge.kind kinds.Out ≡ out
          → IsMarkedWord (site edit) node x (way.number ∷ []) (if out then exits.Found else on_there)
      its_mark out e =
          let mark = at_copy (λ _ word. heads.Word word) (way.number ∷ []) _ (copy.shape ∙ rw (straight, e)) in
          record { mark = mark; straight = straight }

      module _ (v : State) (does : does_at g x t ≡ v) (live : v.ending ≡ None) where
        went : (v.pc ≡ x.npc) × (v.slot ≡ NoSlot)
        went = rw (← does) (goes_straight g x t word (word_is g x slot at) straight (rw does live))

        gone_left : gone_at g node x v ≡ slot_left g.text (graph_in g) node (way_in edit x) x.npc
        gone_left = slot_gone g node x v not went.1 live ∙ rw went.0

        gone_along : gone_at g node x v ≡ way.number ∷ landed g.text (graph_in g) way.edge.kind x.npc
        gone_along = gone_left ∙ rw (way.only, (edge_is in_slot).same)

        -- where the machine is after the step
        abbrev entry_after : ℕ
        entry_after = entered_at (site edit) (node_after (graph_in g) node (gone_at g node x v)) (point_of v)

        -- the edge leads on to where the machine goes
        goes : same_kind way.edge.kind kinds.Out ≡ false → GoesThere edit way.edge.to x.npc on_there
            → (gone_at g node x v ≡ way.number ∷ []) × (Reaches (site edit) piece on_there (word_at g.text v.pc) entry_after
            × (word_at g.text v.pc ≢ None → way.number ∷ [] ≡ [] → on_there ≡ exits.Behind))
        goes other ends =
            let there = subst (λ pc. GoesThere edit way.edge.to pc on_there) (sym went.0) ends in
            let reaches = goes_on_there edit way.edge.to (point_of v) piece on_there went.1 there in
            rw (gone_along, lands_not g.text (graph_in g) way.edge.kind x.npc other, way.is)
            (refl, (reaches, λ _ e. absurd (cc)))

      plain_case : same_kind way.edge.kind kinds.Out ≡ false → GoesThere edit way.edge.to x.npc on_there
          → IsCase (site edit) node x t
      plain_case other ends =
          let leads = λ (live : (does_at g x t).ending ≡ None). goes (does_at g x t) refl live other ends in
          plain (record { edges = _; exit = _; mark = its_mark false other; leads = leads })

      -- along the ways but for a JMPL's
      other_case : same_kind (way_in edit x) kinds.Out ≡ false → to ≡ first_word (graph_in g) way.edge.to
          → IsCase (site edit) node x t
      other_case other first =
          let kind : way.edge.kind ≡ way_in edit x = kind_is in_slot (λ out. absurd (false≢true (sym other ∙ out))) in
          let w = word_at-some g.text x.pc slot at in
          let last = last_in (graph_in g) node in
          let far : IsJumpTarget x.npc =
          rw (way.goes other) (along_far g.text last (way_in edit x) (decode_of (slice_index g.text.words last)) is.text
          (omega (arith, w.is, w.within, way.pc))) in
          plain_case (rw kind other) (rw (first, (edge_is in_slot).leaves, kind, ← (way.goes other))
          (leads_on edit way.edge.to x.npc _ refl (way.leads other).0 far))

      -- a Case edge leads to where a run lands
      along_case : same_kind (way_in edit x) kinds.Out ≡ true → has_cases g.switches node ≡ true
          → word_at g.text x.npc ≡ Some to → IsCase (site edit) node x t
      along_case out cased goes_there =
          let a = way_address g.text (graph_in g) way.edge.from way.edge.kind in
          let within = (word_at-some g.text x.npc to goes_there).within in
          let on_case : on_there ≡ goes_to (enter_number g.text (graph_in g) way.edge.to to) =
          rw (way.lands_at out, cased, goes_there)
          (lands_as b g.switches to (omega (arith, within, (cut_in g is).words))
          (λ (n : Node). goes_on g.text (graph_in g) n to a ≡ goes_to (enter_number g.text (graph_in g) n to))
          (λ _. refl) (λ _. refl)) in
          plain_case (rw (case_kind in_slot out cased)) (inr (to, goes_there, on_case))

      -- a JMPL's slot: the table leads on
      module _ (out : same_kind (way_in edit x) kinds.Out ≡ true) (quiet : has_cases g.switches node ≡ false) where
        caseless : HasNoCases g node
        caseless k table e same =
            let t = table_of g is.known k table e in
            false≢true (sym quiet ∙ rw (same, ← t.same) (jump_of g.switches k t.o t.is))

        kind_out : way.edge.kind ≡ kinds.Out
        kind_out = kind_is in_slot (λ _. quiet) ∙ same_kinds (way_in edit x) kinds.Out out

        target_in_page : (x.npc < 2 ^ 32) × (x.npc % 4 ≡ 0)
        target_in_page =
            let w = here.target_in_page (way.jumps out) out caseless in
            (rw w.0 at (memory_word-range t.memory (page_word 1) here.valid.memory), w.1)

        -- the table leads to the landing at the node to which the jump leads
        landed_at : (v : State) (does : does_at g x t ≡ v) (live : v.ending ≡ None) (o : Option ℕ)
            → word_at g.text x.npc ≡ o → Lands (site edit) (landed g.text (graph_in g) kinds.Out x.npc) x.npc (entry_after v does live)
        landed_at v does live None none =
            let there = shape_at g.text (graph_in g) (facts g is) f.table.base f.cases.base Foreign _
            (foreign_stands g.text (graph_in g) (facts g is)) in
            let low = shape_within (site edit) _ _ there in
            let found = tables.others x.npc target_in_page.0 target_in_page.1 none in
            (record { 0 = foreign_number g.text (graph_in g) }, low, found, inr (inr (rw none, there, none)))
        landed_at v does live (Some to) some =
            let node_to = lands (graph_in g) (Some to) in
            let entry = enter_number g.text (graph_in g) node_to to in
            let within : to < length g.text.words = (word_at-some g.text x.npc to some).within in
            let w = went v does live in
            let on_word = entered_word edit (node_after (graph_in g) node (gone_at g node x v)) (point_of v) to
            (rw w.0 some) w.1 in
            let lands_to : node_after (graph_in g) node (gone_at g node x v) ≡ lands (graph_in g) (word_at g.text x.npc) =
            rw (gone_left v does live, same_kinds (way_in edit x) kinds.Out out)
            (jump_lands g.text b g.switches (cut_in g is) node x (rw (same_kinds _ kinds.Out out) at way)) in
            let visit : slice_index p.at entry ≡ entry_after v does live = rw (on_word, lands_to, some) in
            let found = tables.words x.npc to target_in_page.0 target_in_page.1 some in
            elim (cases_Bool (operations_on g.snips (edge_landing (graph_in g) node_to) == 0)) [
              | inl e ↦
                  let has = has_image g.text (graph_in g) (facts g is) node_to to
                  (home_lands b g.switches (Some to) ∙ node_is b to (omega (arith, within, (cut_in g is).words)))
                  (lands_in b g.switches (cut_in g is).firsts.some (Some to)) in
                  let low = shape_within (site edit) entry _ (enter_at g.text (graph_in g) (facts g is) f.table.base
                  f.cases.base node_to to within has) in
                  (record { 0 = entry }, low, found ∙ rw e, inr (inl (rw some (eqb-true _ _ e), visit)))
              | inr e ↦
                  let there = shape_at g.text (graph_in g) (facts g is) f.table.base f.cases.base (Landing to) _
                  (landing_stands g.text (graph_in g) (facts g is) to within) in
                  let low = shape_within (site edit) _ _ there in
                  let landing : PieceNo = record { 0 = landing_number g.text (graph_in g) to } in
                  (landing, low, found ∙ rw e, inl (inr (goes_to entry, there ∙ rw some, visit)))
            ]

        jump_case : IsCase (site edit) node x t
        jump_case = jumps_slot (record {
          slot = way.jumps out;
          out = out;
          caseless = caseless;
          edge = way.number;
          outward = ap is_out way.is ∙ rw kind_out;
          landing = landed g.text (graph_in g) kinds.Out x.npc;
          completes = λ live. gone_along (does_at g x t) refl live ∙ rw kind_out;
          mark = its_mark true (rw kind_out);
          lands = λ live. landed_at (does_at g x t) refl live (word_at g.text x.npc) refl;
        })

  -- each slot at a word
  pub copy_case : IsCase (site edit) node x t
  copy_case =
      by_cases _ (same_kind (way_in edit x) kinds.Out) (has_cases g.switches node)
      (λ caseless.
      let copy = plain_copy at_slot caseless in
      by_word _ _ copy (λ straight. elim (cases_Bool (same_kind (way_in edit x) kinds.Out)) [
        | inl out ↦ jump_case _ _ copy straight out (caseless out)
        | inr other ↦ other_case _ _ copy straight other refl
      ]))
      (λ out cased.
      let copy = case_copy at_slot out cased in
      by_word _ _ copy (λ straight. along_case _ _ copy straight out cased (target in_slot out cased).goes))

-- What the code knows of the open switches is true of the text; the edges of its graph, and the pieces of the ways.
use Rattle.image_code.proofs.Common.{◌≡◌, ℕ, Some, map, ap, sym, ◌∙◌, arith, nat_lt, slice_get, and_parts, slice_get-map, IsText, operands_in_range, decoded_range, blocks_of, Open, slice_index, mapped, IsGraphOf, case_table, AreCaseTables, first_operand, load_of, second_operand, CaseTable, EditSetup, graph_in, Option, false, ◌+◌, ◌*◌, ◌%◌, ◌^◌, ◌<◌, [], ◌∷◌, length, ◌&&◌, w32, position-Some, get_or_from_slice_get, Words, address_of, Instr, EdgeKind, Blocks, Edge, Node, edges_in, lands, WayOut, edge_along, same_kind, same_node, IsCut, cut, block, same_nodes, same_kinds, Carried, IsSlotIn, leads_along, target_along, cast_unsigned, number_of_list, edge_lies_in, first_word, shape_list, way_along, way_by, way_shape}
use Rattle.v8_decode.specs.declared.Instr.TheVariants as i
use Rattle.cfg_blocks.specs.declared.EdgeKind.TheVariants as kinds
use Rattle.cfg_blocks.specs.Values.{instr_at}
use Rattle.image_code.proofs.Opened.{AreCased, load_is}
use Rattle.image_code.proofs.Operands.{operand_fits}
use Rattle.image_code.proofs.PointShapes.{IsJumpTarget}
use Rattle.image_code.proofs.Branches.{IsTransfersWay}
use Rattle.image_code.proofs.Listed.{case_stands, shape_at, way_stands}
use Rattle.image_code.proofs.OpenBlocks.{IsTextGraph, text_graph}
use Rattle.image_code.specs.Labels.{Case, Way, case_piece, way_piece}

-- The graph of a set-up is that of its text, with the open switches of which the code knows.
pub record IsKnown (g : EditSetup) : Type 0 where
  pub text : IsText g.text
  pub graph : IsGraphOf g.text (graph_in g)
  pub cased : AreCased g.text (blocks_of g.text g.given) g.switches
  pub known : g.opens ≡ map (case_table g.text) g.switches

-- the open switch of which the code knows this
pub record IsTableOf (g : EditSetup) (k : ℕ) (table : CaseTable) : Type 0 where
  pub o : Open
  pub is : slice_get g.switches k ≡ Some o
  pub same : case_table g.text o ≡ table

module _ (g : EditSetup) (known : g.opens ≡ map (case_table g.text) g.switches) where
  pub table_of : (k : ℕ) (table : CaseTable) → slice_get g.opens k ≡ Some table → IsTableOf g k table
  table_of k table e =
      let found = mapped (case_table g.text) (slice_get g.switches k) table
      (rw (← slice_get-map (case_table g.text) g.switches k, ← known) e) in
      record { o = found.got; is = found.is; same = found.same }

  pub known_at : (k : ℕ) (o : Open) → slice_get g.switches k ≡ Some o → slice_get g.opens k ≡ Some (case_table g.text o)
  known_at k o e = rw (known, slice_get-map (case_table g.text) g.switches k, e)

  module _ (is_text : IsText g.text) (cased : AreCased g.text (blocks_of g.text g.given) g.switches) where
    pub are_tables : AreCaseTables g
    are_tables = record {
      text = is_text;
      each = λ k table e.
          let t = table_of k table e in
          let c = cased.each k t.o t.is in
          let l = load_is g.text (blocks_of g.text g.given) t.o c in
          let load = instr_at g.text (load_of g.text t.o) in
          rw (← t.same) (record {
            order = l.below;
            within = omega (arith, c.behind);
            last = sym c.last;
            rd = l.rd;
            loads = l.is;
            in_range = (and_parts (nat_lt l.rd 32) (operands_in_range (first_operand load) (second_operand load))
                (decoded_range _ (slice_index g.text.words (load_of g.text t.o)) (sym l.is))).1;
            fits = operand_fits (slice_index g.text.words (load_of g.text t.o)) _ l.is;
            straight = λ word above below. c.straight word (omega (arith, l.above)) below;
          });
      apart = λ k j one other e d same.
          let t = table_of k one e in
          let u = table_of j other d in
          let blocks = rw (← t.same, ← u.same) at same in
          sym t.same ∙ ap (case_table g.text) (cased.one k j t.o u.o t.is u.is blocks) ∙ u.same;
    }

-- ---- addresses to which a long jump can lead

reached_far : (text : Words) (word displacement : ℕ) → IsText text
    → IsJumpTarget ((address_of text word + 4 * displacement) % 2 ^ 32)
reached_far text word displacement is = let a = is.aligned in (omega arith, omega arith)

-- where a transfer leads, which stands at a word
pub along_far : (text : Words) (word : ℕ) (kind : EdgeKind) (instr : Instr) → IsText text → word < length text.words
    → IsJumpTarget (target_along text word kind instr)
along_far text word kinds.Taken (i.Branch cond annul disp) is l = reached_far text word (cast_unsigned w32 disp) is
along_far text word kinds.Call (i.Call disp) is l = reached_far text word (cast_unsigned w32 disp) is
along_far text word kind instr is l =
    let far : IsJumpTarget (address_of text (word + 2)) = (omega arith, omega arith) in far

-- ---- edges

-- the way along a Case edge to a node
abbrev pub by_case : Node → WayOut
by_case to = record { kind = kinds.Case; to = Some to }

module _ (g : EditSetup) (is : IsKnown g) where
  abbrev b : Blocks
  b = blocks_of g.text g.given

  pub cut_in : IsCut g.text b
  cut_in = cut g.text g.given is.text.some

  pub facts : IsTextGraph g.text (graph_in g)
  facts = text_graph g.text (graph_in g) is.text is.graph

  -- the one edge along which a way leaves a node
  pub record IsAlong (node : Node) (way : WayOut) (number : ℕ) (edge : Edge) : Type 0 where
    pub only : edge_along (graph_in g) node way ≡ number ∷ []
    pub found : slice_get (edges_in b g.switches) number ≡ Some edge
    pub leaves : edge.from ≡ node
    pub same : edge.kind ≡ way.kind

  pub along : (node : Node) (way : WayOut) (number : ℕ) (edge : Edge) → edge_along (graph_in g) node way ≡ number ∷ []
      → slice_get (edges_in b g.switches) number ≡ Some edge → IsAlong node way number edge
  along node way number edge only found =
      let edges = edges_in b g.switches in
      let passes = rw (get_or_from_slice_get edges number edge edge found) at (position-Some
      (λ edge. leads_along way.to edge && (same_node edge.from node && same_kind edge.kind way.kind)) edges number edge
      (number_of_list _ number only)).1 in
      let parts = and_parts (same_node edge.from node) _ (and_parts (leads_along way.to edge) _ passes).1 in
      assumption (same_nodes edge.from node parts.0, same_kinds edge.kind way.kind parts.1)

  -- the slot that an edge carries stands in the text, or behind its end
  pub slot_in : (number : ℕ) (edge : Edge) → slice_get (edges_in b g.switches) number ≡ Some edge → IsSlotIn b edge.slot
  slot_in number edge found = (edge_lies_in b g.switches cut_in.firsts.some number edge found).slot

  module _ (table cases : ℕ) where
    -- the piece of an edge that is no landing
    pub way_at : (number : ℕ) (edge : Edge) → slice_get (edges_in b g.switches) number ≡ Some edge
        → same_kind edge.kind kinds.Land ≡ false
        → slice_get (shape_list g.text (graph_in g) table cases) (way_piece g.text (graph_in g) number)
        ≡ Some (way_along g.text (graph_in g) table number edge)
    way_at number edge e other = shape_at g.text (graph_in g) facts table cases (Way number) _
        (way_stands g.text (graph_in g) facts number (facts.before number edge e other))
        ∙ ap (λ (o : Option Edge). Some (way_shape g.text (graph_in g) table number o)) e

    -- the piece of its way
    pub shape_along : (node : Node) (way : WayOut) (number : ℕ) (edge : Edge)
        → IsAlong node way number edge → IsTransfersWay way.kind → (to : Carried) → edge.slot ≡ to
        → slice_get (shape_list g.text (graph_in g) table cases) (way_piece g.text (graph_in g) number)
        ≡ Some (way_by g.text (graph_in g) table number edge (first_word (graph_in g) edge.to) to)
    shape_along node way number edge k own to e =
        way_at number edge k.found (rw k.same own.land) ∙ rw (k.same, own.fall, own.caseless, e)

    -- the piece of a Case edge, where control goes on at a target
    pub shape_case : (k : ℕ) (o : Open) → slice_get g.switches k ≡ Some o → (entry word : ℕ)
        → slice_get o.targets entry ≡ Some word → (number : ℕ) (edge : Edge)
        → IsAlong (block o.block) (by_case (lands (graph_in g) (Some word))) number edge
        → (to : Carried) → edge.slot ≡ to
        → slice_get (shape_list g.text (graph_in g) table cases) (case_piece g.text (graph_in g) o.block word)
        ≡ Some (way_by g.text (graph_in g) table number edge word to)
    shape_case k o e entry word at number edge along to slot =
        shape_at g.text (graph_in g) facts table cases (Case o.block word) _
        (case_stands g.text (graph_in g) facts k o e entry word at) ∙ rw (along.only, along.found, slot)

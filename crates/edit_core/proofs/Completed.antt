-- Which edges a step completes: none, one, or that of a jump and then a landing.
use Rattle.edit_core.proofs.Common.{arith, ◌≡◌, ℕ, ◌-◌, ◌<◌, Bool, true, ◌&&◌, ◌==◌, List, [], ◌∷◌, ◌++◌, length, append-nil, Option, Some, None, slice_index, refl, if◌then◌else◌, and_parts, cond_both, or_left, Words, word_at, Instr, Part, is_member, decode_of, NoSlot, EdgeKind, Edge, Node, X, Graph, lands, Point, gone, instr_at, same_kind, same_node, IsLiveOn, edge_at, is_call_or_jump, is_unknown, option_to_list, position, has-every_part, has_cases}
use Rattle.std.proofs.lemmas.List.Quantifiers.{position-Some}
use Rattle.v8_decode.specs.declared.Instr.TheVariants as i
use Rattle.v8_step.specs.declared.Slot.{Slot}
use Rattle.cfg_blocks.specs.Ends.{always}
use Rattle.cfg_blocks.specs.declared.EdgeKind.TheVariants as kinds
use Rattle.cfg_normal.specs.declared.Slot.TheVariants as carried
use Rattle.cfg_walk.specs.Walk.{WayOut, by_kind, completed, edge_along, edge_from, ends_block, landed, leads_along, left_along, left_at, left_by, slot_left, way_of}

abbrev IsIn : Graph → ℕ → Type 0
IsIn graph e = e < length graph.edges

-- Along the first of two edges a jump went, and the second is another.
pub data Completes (graph : Graph) : List ℕ → Type 0 where
  none : Completes graph []
  one : (e : ℕ) → IsIn graph e → Completes graph (e ∷ [])
  two : (e f : ℕ) → IsIn graph e → is_unknown (edge_at graph e) ≡ true → IsIn graph f → (e ≡ f → ⊥)
      → Completes graph (e ∷ f ∷ [])

-- anything may be read behind an edge of a jump
pub unknown_lives : (text : Words) (graph : Graph) (named : ℕ → List Part) (e : ℕ)
    → is_unknown (edge_at graph e) ≡ true → (p : Part) → is_member p ≡ true → IsLiveOn text graph named e p
unknown_lives text graph named e unknown p member = ([], cc (unknown, has-every_part p, member))

pub jump_kind : (kind : EdgeKind) → same_kind kind kinds.Out ≡ true → is_call_or_jump kind ≡ true
jump_kind kind h = grind arith

out_or_land : (kind : EdgeKind) → same_kind kind kinds.Out ≡ true → same_kind kind kinds.Land ≡ true → ⊥
out_or_land kind out land = grind arith

module _ (graph : Graph) where
  -- the edge that a search finds
  found : (test : Edge → Bool) (e : ℕ) → position test graph.edges ≡ Some e
      → IsIn graph e × (test (edge_at graph e) ≡ true)
  found test e h =
      let at = position-Some test graph.edges e (record { from = X; to = X; kind = kinds.Land; slot = carried.Nothing }) h in
      (at.0, at.1)

  at_most_one : (test : Edge → Bool) (o : Option ℕ) → position test graph.edges ≡ o → Completes graph (option_to_list o)
  at_most_one test None h = none
  at_most_one test (Some e) h = one e (found test e h).0

  along : (node : Node) (way : WayOut) → Completes graph (edge_along graph node way)
  along node way =
      at_most_one (λ edge. leads_along way.to edge && (same_node edge.from node && same_kind edge.kind way.kind)) _ refl

  left_by_one : (node : Node) (word : ℕ) (instr : Instr) → Completes graph (left_by graph node word instr)
  left_by_one node word (i.Branch cond annul disp22) =
      along node (by_kind (if cond == always then kinds.Taken else kinds.Untaken))
  left_by_one node word _ =
      cond_both (ends_block graph node word) _ _ (Completes graph) (λ _. along node (by_kind kinds.Fall)) (λ _. none)

  left_one : (text : Words) (node : Node) (o : Option ℕ) → Completes graph (left_at text graph node o)
  left_one text node None = none
  left_one text node (Some word) = left_by_one node word (decode_of (slice_index text.words word))

  -- ---- out of a slot

  -- an edge that a jump takes, and one along which it lands
  jump_then : (node to : Node) (o u : Option ℕ) → position (λ edge. leads_along None edge
      && (same_node edge.from node && same_kind edge.kind kinds.Out)) graph.edges ≡ o
      → position (λ edge. same_node edge.to to && same_kind edge.kind kinds.Land) graph.edges ≡ u
      → Completes graph (option_to_list o ++ option_to_list u)
  jump_then node to None None h k = none
  jump_then node to None (Some f) h k = one f (found _ f k).0
  jump_then node to (Some e) None h k = one e (found _ e h).0
  jump_then node to (Some e) (Some f) h k =
      let first = found _ e h in
      let second = found _ f k in
      let out = (and_parts (same_node (edge_at graph e).from node) _ (and_parts (leads_along None (edge_at graph e)) _ first.1).1).1 in
      two e f first.0 (or_left _ _ (jump_kind (edge_at graph e).kind out)) second.0
      (λ same. out_or_land (edge_at graph f).kind (rw same at out) (and_parts _ _ second.1).1)

  along_then : (node : Node) (way : WayOut) → Completes graph (edge_along graph node way ++ [])
  along_then node way = rw (append-nil (edge_along graph node way)) (along node way)

  jumped : (text : Words) (node : Node) (next : ℕ) (o : Option ℕ) → word_at text next ≡ o
      → Completes graph (edge_from graph node kinds.Out ++ landed text graph kinds.Out next)
  jumped text node next None e = rw e (along_then node (by_kind kinds.Out))
  jumped text node next (Some word) e = rw e (jump_then node (lands graph (Some word)) _ _ refl refl)

  out_of_slot : (text : Words) (node : Node) (kind : EdgeKind) (next : ℕ)
      → Completes graph (slot_left text graph node kind next)
  out_of_slot text node kinds.Out next =
      let case : WayOut = record { kind = kinds.Case; to = Some (lands graph (word_at text next)) } in
      cond_both (has_cases graph.opens node) case (by_kind kinds.Out)
      (λ (way : WayOut). Completes graph (left_along text graph node way next)) (λ _. along_then node case)
      (λ _. jumped text node next (word_at text next) refl)
  out_of_slot text node kind next = along_then node (by_kind kind)

  completes : (text : Words) (node : Node) (before after : Point) (was now : Slot)
      → Completes graph (completed text graph node before after was now)
  completes text node before after NoSlot NoSlot = left_one text node (word_at text before.pc)
  completes text node before after was NoSlot = out_of_slot text node (way_of (instr_at text (before.pc - 4)) was) after.pc
  completes text node before after _ _ = none

  pub gone_completes : (text : Words) (node : Node) (before : Point) (after : Option Point)
      → Completes graph (gone text graph node before after)
  gone_completes text node before None = none
  gone_completes text node before (Some after) = completes text node before after before.slot after.slot

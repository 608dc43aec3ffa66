use Rattle.edit_core.proofs.Common.{refl, ap, ◌∙◌, arith, Words, dead_on, piece_list, case_numbers, pieces_fit, foreign_number}
use Rattle.edit_core.proofs.Dead.{rest_is_dead}
use Rattle.edit_core.proofs.Graphs.{graph_cut}
use Rattle.edit_core.proofs.Steps.{new_room}
use Rattle.edit_core.proofs.building.make_pieces.Goals as goal

pub live-requires-clause-graph : goal.live-requires-clause-graph
live-requires-clause-graph c =
    rw c.text-text.ensures (graph_cut c.args.image.now.text c.args.graph.now c.requires.text c.requires.graph).words

pub snippet_code-requires-clause-low : goal.snippet_code-requires-clause-low
snippet_code-requires-clause-low c =
    rw (c.text-text.ensures, c.data_addresses-addresses.ensures.table, c.above.ensures.base, c.above.ensures.cells)
    (omega (arith, new_room pieces_fit c.requires (dead_on c.in_ok-live.live), c.requires.low))

pub pieces_with-requires-clause-low : goal.pieces_with-requires-clause-low
pieces_with-requires-clause-low c =
    rw (c.text-text.ensures, c.data_addresses-addresses.ensures.table, c.above.ensures.base, c.above.ensures.cells)
    (omega (arith, new_room pieces_fit c.requires (dead_on c.in_ok-live.live), c.requires.low))

pub returns : goal.returns
returns c =
    let spots = c.data_addresses-addresses.ensures in
    let above = c.above.ensures in
    record {
      dead = dead_on c.in_ok-live.live;
      exact = rest_is_dead c.args.image.now.text c.args.graph.now _ c.in_ok-live.live
          (rw (← c.text-text.ensures, ← c.deref.ensures.value) c.in_ok-live.ensures);
      list = c.in_ok-made.ensures.list
          ∙ ap (piece_list c.text-text.result.now c.args.graph.now c.data_addresses-addresses.result.table.0
          c.data_addresses-addresses.result.cases.0) (λ i edge. c.in_ok-code.ensures.words edge i)
          ∙ rw (c.deref-2.ensures.value, spots.cases, spots.table, spots.cells, c.text-text.ensures, above.base, above.cells) refl;
      landing = rw (c.in_ok-made.ensures.landing, ← c.text-text.ensures, ← c.deref-2.ensures.value) c.in_ok-code.ensures.landing;
      cases = c.in_ok-made.ensures.cases ∙ ap (λ (t : Words). case_numbers t c.args.graph.now) c.text-text.ensures;
      foreign = c.in_ok-made.ensures.foreign ∙ ap (λ (t : Words). foreign_number t c.args.graph.now) c.text-text.ensures;
      entry = rw (c.in_ok-made.ensures.entry, c.text-text.ensures, c.entry.ensures.word) refl;
      begins = c.entry.ensures.inside;
    }

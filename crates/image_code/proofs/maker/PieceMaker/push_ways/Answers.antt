use Rattle.cfg_normal.specs.Code.{landing_count}
use Rattle.image_code.specs.Labels.{Way}
use Rattle.image_code.proofs.Pushed.{below_next}
use Rattle.image_code.proofs.Positions.{get_taken}
use Rattle.image_code.proofs.Common.{◌≡◌, ◌∙◌, ◌-◌, ◌^◌, ◌<◌, Edge, Some, append_assoc, map-append, length, length-take, ap, sym, arith, le_prop, slice_get, slice_get-get_or, slice_index_or, ∥∥₁_elim, way_shape}
use Rattle.image_code.proofs.maker.PieceMaker.push_ways.Goals as goal

pub overflow_cast-number : goal.overflow_cast-number
overflow_cast-number c =
    let of = c.args.self.now.graph.now in
    let many = length-take (length of.edges - landing_count of) of.edges in
    let edges = ap length c.edges_but_landings-edge-items.ensures.edges in
    let low : c.loop-number.number < 2 ^ 32 = ∥∥₁_elim c.args.self.now.found le_prop (λ found.
    omega (arith, found.source.is_graph.edge_count, found.source.is_graph.few)) in
    omega arith

pub loop-number-preserved : goal.loop-number-preserved
loop-number-preserved c =
    let maker = c.args.self.now in
    let of = maker.graph.now in
    let n = c.loop-number.number in
    let edges = c.edges_but_landings-edge-items in
    let many = length-take (length of.edges - landing_count of) of.edges in
    let taken = get_taken (length of.edges - landing_count of) n of.edges (omega (arith, ap length edges.ensures.edges)) in
    let at : (d : Edge) → slice_get of.edges n ≡ Some (slice_index_or edges.result.now n d) =
    λ d. rw (← taken, ← edges.ensures.edges) (slice_get-get_or edges.result.now n d c.loop-number-test.true) in
    let shape = c.in_ok-way.ensures ∙ sym (ap (way_shape maker.text.now of maker.table.0 n) (at _)) in
    rw (c.in_ok-push_piece.ensures, c.loop-number.invariant, below_next Way, shape) (simp (map-append, append_assoc))

use Rattle.edge_ring.proofs.Common.{◌≡◌, drop, map, take, take_rest, edges_in}
use Rattle.std.proofs.lemmas.Result.{IfOk-weaker}
use Rattle.edge_ring.proofs.Places.{at, held, number}
use Rattle.edge_ring.proofs.reading.edges_in.Goals as goal

pub returns : goal.returns
returns c bits size =
    let cells = c.args.cells.now in
    let front : c.split_at.result.0.now ≡ take (at cells) (drop 1 cells) = simp take_rest at c.split_at.ensures.front in
    let back : c.split_at.result.1.now ≡ drop (at cells) (drop 1 cells) = simp take_rest at c.split_at.ensures.back in
    IfOk-weaker c.edges_of.result _ (λ edges. map number edges.items ≡ edges_in bits cells)
    (λ edges are. held bits cells _ _ edges.items size are back front) c.edges_of.ensures

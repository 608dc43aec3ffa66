use Rattle.edge_ring.proofs.Common.{◌∙◌, ap, length, map, ◌≡◌, ◌+◌, ◌^◌, dump_seen, edges_in}
use Rattle.edge_ring.proofs.Places.{inside, number}
use Rattle.edge_ring.proofs.reading.last_edges.Goals as goal

pub returns-clause-inside : goal.returns-clause-inside
returns-clause-inside c =
    let d = c.args.d.now in
    let whole = c.in_ok-judge_entries.ensures.whole in
    let trace = whole.placed.theirs.for_them.alike.right in
    let size : length c.deref.result.now ≡ 1 + 2 ^ trace.bits =
    ap length c.deref.ensures.value ∙ whole.placed.theirs.cells ∙ trace.cells in
    let are : map number c.in_ok-edges.edges.items ≡ edges_in trace.bits d.cells.items =
    c.in_ok-edges.ensures trace.bits size ∙ ap (edges_in trace.bits) c.deref.ensures.value in
    inside c.args.n.now (dump_seen d) trace.bits c.in_ok-edges.edges.items whole are

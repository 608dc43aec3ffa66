use Rattle.edge_ring.proofs.Common.{◌≡◌, ◌++◌, take, flat_map, notes_seen, edge_line}
use Rattle.edge_ring.proofs.lines.put_edges.Given as goal

abbrev pub invariant-loop-edge : goal.invariant-loop-edge
invariant-loop-edge l = l.text.items
    ≡ l.initial.text.items ++ flat_map (λ edge. edge_line (notes_seen l.n) edge.0) (take l.edge-index l.edges)

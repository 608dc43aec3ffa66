use Rattle.notes.proofs.Common.{◌≡◌, ◌++◌, take, flat_map, edge_bytes}
use Rattle.notes.proofs.writing.put_edges.Given as goal

abbrev pub invariant-loop-edge : goal.invariant-loop-edge
invariant-loop-edge l = l.out.items ≡ l.initial.out.items ++ flat_map edge_bytes (take l.edge-index l.edges)

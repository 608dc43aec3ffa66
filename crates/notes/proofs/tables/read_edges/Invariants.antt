use Rattle.notes.proofs.Common.{◌≡◌, [], map, edges_at, edge_seen}
use Rattle.notes.proofs.TableRows.{EdgesRead}
use Rattle.notes.proofs.tables.read_edges.Given as goal

abbrev pub invariant-loop-row : goal.invariant-loop-row
invariant-loop-row l =
    (l.taken.width ≡ l.width)
    × EdgesRead l.taken.width l.blocks l.cells l.notes l.at l.count l.row (map edge_seen l.edges.items) l.taken.marks.items (edges_at l.width l.blocks l.cells l.notes l.at [] l.count)

use Rattle.image_code.proofs.Common.{take, AreFirstEdges}
use Rattle.image_code.proofs.firsts.note_edges.Given as goal

abbrev pub invariant-loop-number : goal.invariant-loop-number
invariant-loop-number l = AreFirstEdges l.graph (take l.number l.edge-items) l.rows

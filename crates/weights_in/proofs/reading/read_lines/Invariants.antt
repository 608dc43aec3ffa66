use Rattle.weights_in.proofs.Common.{length, view_seen}
use Rattle.weights_in.proofs.Read.{IsRead}
use Rattle.weights_in.proofs.reading.read_lines.Given as goal

abbrev pub invariant-loop-line : goal.invariant-loop-line
invariant-loop-line l = IsRead (view_seen l.v) l.bytes l.reading l.rest

abbrev pub decreases-loop-line : goal.decreases-loop-line
decreases-loop-line l = length l.rest

use Rattle.flood.specs.Private.{IsFlooding, fuel}
use Rattle.flood.proofs.search.flood.Given as goal

abbrev pub invariant-loop-place : goal.invariant-loop-place
invariant-loop-place l = IsFlooding l.fn.reads.items l.links 0 0 l.sets.items l.stack.items

abbrev pub decreases-loop-place : goal.decreases-loop-place
decreases-loop-place l = fuel l.sets.items l.stack.items

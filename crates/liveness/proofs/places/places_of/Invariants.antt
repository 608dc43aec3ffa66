use Rattle.liveness.specs.Search.{AreMarks}
use Rattle.liveness.proofs.places.places_of.Given as goal

abbrev pub invariant-loop-e : goal.invariant-loop-e
invariant-loop-e l = AreMarks l.graph l.e l.marks.items

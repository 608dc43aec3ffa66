use Rattle.flood.specs.Private.{AreAll}
use Rattle.flood.proofs.search.all_places.Given as goal

abbrev pub invariant-loop-place : goal.invariant-loop-place
invariant-loop-place l = AreAll l.place l.places.items

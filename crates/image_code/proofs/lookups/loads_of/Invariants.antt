use Rattle.image_code.proofs.Common.{◌≡◌, map, take, load_of}
use Rattle.image_code.proofs.lookups.loads_of.Given as goal

abbrev pub invariant-loop-found : goal.invariant-loop-found
invariant-loop-found l = l.loads.items ≡ map (load_of l.text) (take l.found-index l.found-items)

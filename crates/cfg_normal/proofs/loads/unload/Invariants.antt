use Rattle.cfg_normal.proofs.Common.{◌≡◌, ◌++◌, drop, map, take, unloaded}
use Rattle.cfg_normal.proofs.loads.unload.Given as goal

abbrev pub invariant-loop-value : goal.invariant-loop-value
invariant-loop-value l =
    l.values ≡ map unloaded (take l.value-index l.initial.values) ++ drop l.value-index l.initial.values

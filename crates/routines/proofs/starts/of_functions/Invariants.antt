use Rattle.std.proofs.Common.{◌≡◌, ℕ, nat_eq, take}
use Rattle.indexmap.specs.IndexMap.{get}
use Rattle.routines.specs.Starts.{first_name}
use Rattle.routines.proofs.starts.of_functions.Given as goal

abbrev pub invariant-loop-func : goal.invariant-loop-func
invariant-loop-func l =
    (w : ℕ) → get nat_eq l.starts w ≡ first_name (take l.func-index l.funcs) w

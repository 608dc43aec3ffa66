use Rattle.std.proofs.Common.{◌≡◌, ◌++◌, map}
use Rattle.routines.specs.Starts.{routine_of}
use Rattle.routines.proofs.list.listed.Given as goal

abbrev pub invariant-loop-word : goal.invariant-loop-word
invariant-loop-word l =
    l.list.items ++ map routine_of l.word-iterator ≡ map routine_of l.fn.starts.entries

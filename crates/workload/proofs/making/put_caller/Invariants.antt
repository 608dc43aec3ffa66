use Rattle.workload.proofs.Common.{◌≡◌, ◌-◌, ◌++◌, map, flat_map, range_with_len, word_of, bytes_of, call_of, exit_code, caller_code}
use Rattle.workload.proofs.making.put_caller.Given as goal

abbrev pub invariant-loop-routine : goal.invariant-loop-routine
invariant-loop-routine l =
    let left = range_with_len l.routine (l.count - l.routine) in
    l.out.items ++ bytes_of (map word_of (flat_map (call_of l.count) left ++ exit_code))
    ≡ l.initial.out.items ++ bytes_of (map word_of (caller_code l.count))

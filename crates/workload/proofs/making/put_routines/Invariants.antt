use Rattle.workload.proofs.Common.{◌≡◌, ◌-◌, ◌++◌, map, flat_map, word_of, bytes_of, routine_code, routines_from}
use Rattle.workload.proofs.making.put_routines.Given as goal

abbrev pub invariant-loop : goal.invariant-loop
invariant-loop l =
    let left = routines_from (l.count - l.counter) l.draws.state in
    l.out.items ++ bytes_of (map word_of (flat_map routine_code left))
    ≡ l.initial.out.items ++ bytes_of (map word_of (flat_map routine_code (routines_from l.count l.number)))

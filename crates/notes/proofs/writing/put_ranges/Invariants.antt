use Rattle.notes.proofs.Common.{◌≡◌, ◌++◌, take, flat_map, range_bytes}
use Rattle.notes.proofs.writing.put_ranges.Given as goal

abbrev pub invariant-loop-range : goal.invariant-loop-range
invariant-loop-range l = l.out.items ≡ l.initial.out.items ++ flat_map range_bytes (take l.range-index l.ranges)

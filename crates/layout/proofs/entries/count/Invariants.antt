use Rattle.layout.proofs.Common.{◌≡◌, ◌+◌, drop, length, entries_from}
use Rattle.layout.proofs.entries.count.Given as goal

abbrev pub invariant-loop-k : goal.invariant-loop-k
invariant-loop-k l =
    l.count + length (entries_from l.pieces (drop l.k-index l.order)) ≡ length (entries_from l.pieces l.order)

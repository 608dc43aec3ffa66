use Rattle.v8_memory.proofs.Common.{◌≡◌, filter, AreKept, is_code}
use Rattle.v8_memory.proofs.memory.Records.make.Given as goal

abbrev pub invariant-loop-n : goal.invariant-loop-n
invariant-loop-n l = record {
  first : l.self.first ≡ l.initial.self.first;
  kept : AreKept (filter is_code l.regions) l.initial.self.first l.initial.self.ops.items
      → AreKept (filter is_code l.regions) l.self.first l.self.ops.items;
}

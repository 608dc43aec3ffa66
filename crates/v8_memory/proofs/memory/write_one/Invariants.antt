-- No region so far has the bytes.
use Rattle.v8_memory.proofs.Common.{◌≡◌, drop, length, find, covers}
use Rattle.v8_memory.proofs.memory.write_one.Given as goal

abbrev pub invariant-loop-region : goal.invariant-loop-region
invariant-loop-region l = record {
  same : l.regions ≡ l.initial.regions;
  left : find (covers l.address (length l.bytes)) l.regions
      ≡ find (covers l.address (length l.bytes)) (drop l.region-index l.regions);
}

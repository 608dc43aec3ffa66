use Rattle.v8_memory.proofs.Common.{◌≡◌, drop, find, is_code}
use Rattle.v8_memory.proofs.memory.code_region.Given as goal

abbrev pub invariant-loop-region : goal.invariant-loop-region
invariant-loop-region l = find is_code l.regions ≡ find is_code (drop l.region-index l.regions)

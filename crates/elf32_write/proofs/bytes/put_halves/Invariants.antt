use Rattle.elf32_write.proofs.Common.{◌≡◌, ◌++◌, take, flat_map, big_bytes}
use Rattle.elf32_write.proofs.bytes.put_halves.Given as goal

abbrev pub invariant-loop-half : goal.invariant-loop-half
invariant-loop-half l = l.out.items ≡ l.initial.out.items ++ flat_map (big_bytes 2) (take l.half-index l.halves)

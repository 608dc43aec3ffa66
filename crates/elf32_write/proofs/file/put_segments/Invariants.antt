use Rattle.elf32_write.proofs.Common.{◌≡◌, map, take, segment_seen, with_segments}
use Rattle.elf32_write.proofs.file.put_segments.Given as goal

abbrev pub invariant-loop-segment : goal.invariant-loop-segment
invariant-loop-segment l = l.out.items ≡ with_segments l.initial.out.items (map segment_seen (take l.segment-index l.added))

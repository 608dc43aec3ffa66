use Rattle.elf32_write.proofs.Common.{◌≡◌, map, take, segment_seen, segments_end}
use Rattle.elf32_write.proofs.layout.segments_end.Given as goal

abbrev pub invariant-loop-segment : goal.invariant-loop-segment
invariant-loop-segment l = l.file_end ≡ segments_end l.fn.end (map segment_seen (take l.segment-index l.added))

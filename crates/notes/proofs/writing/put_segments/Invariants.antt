use Rattle.notes.proofs.Common.{◌≡◌, ◌++◌, take, flat_map, segment_bytes}
use Rattle.notes.proofs.writing.put_segments.Given as goal

abbrev pub invariant-loop-segment : goal.invariant-loop-segment
invariant-loop-segment l = l.out.items ≡ l.initial.out.items ++ flat_map segment_bytes (take l.segment-index l.segments)

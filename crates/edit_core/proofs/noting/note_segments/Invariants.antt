use Rattle.edit_core.proofs.Common.{◌≡◌, map, take, segment_added, segment_seen, segment_noted}
use Rattle.edit_core.proofs.noting.note_segments.Given as goal

abbrev pub invariant-loop-segment : goal.invariant-loop-segment
invariant-loop-segment l =
    map segment_seen l.segments.items ≡ map segment_noted (map segment_added (take l.segment-index l.added))

use Rattle.notes.proofs.Common.{◌≡◌, ◌+◌, ◌*◌, ◌-◌, map, segments_at, segment_seen}
use Rattle.notes.proofs.Steps.{after}
use Rattle.notes.proofs.tables.read_segments.Given as goal

-- what was read and what is left are the whole table
abbrev pub invariant-loop-row : goal.invariant-loop-row
invariant-loop-row l = segments_at l.notes l.at 0 l.count ≡ after (map segment_seen l.segments.items) (segments_at l.notes (l.at + 8 * l.row) l.end (l.count - l.row))

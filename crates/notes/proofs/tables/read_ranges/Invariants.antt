use Rattle.notes.proofs.Common.{◌≡◌, ◌+◌, ◌*◌, ◌-◌, map, ranges_at, segment_seen, range_seen}
use Rattle.notes.proofs.Steps.{after}
use Rattle.notes.proofs.tables.read_ranges.Given as goal

-- what was read and what is left are the whole table
abbrev pub invariant-loop-row : goal.invariant-loop-row
invariant-loop-row l = ranges_at l.blocks (map segment_seen l.segments) l.notes l.at 0 l.count ≡ after (map range_seen l.ranges.items) (ranges_at l.blocks (map segment_seen l.segments) l.notes (l.at + 16 * l.row) l.end.0 (l.count - l.row))

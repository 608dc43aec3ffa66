use Rattle.notes.proofs.Common.{◌≡◌, ◌+◌, ◌*◌, ◌-◌, None, blocks_at}
use Rattle.notes.proofs.Steps.{after}
use Rattle.notes.proofs.tables.read_blocks.Given as goal

-- what was read and what is left are the whole table
abbrev pub invariant-loop-row : goal.invariant-loop-row
invariant-loop-row l = blocks_at l.words l.notes l.at None l.count ≡ after l.blocks.items (blocks_at l.words l.notes (l.at + 4 * l.row) l.before (l.count - l.row))

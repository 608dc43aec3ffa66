use Rattle.std.proofs.Common.{rules}
use Rattle.notes.proofs.cells.Taken.is_counter.Goals as goal

pub returns-then-word-self-eq0 : goal.returns-then-word-self-eq0
returns-then-word-self-eq0 c = search rules

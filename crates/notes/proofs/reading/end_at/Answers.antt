use Rattle.std.proofs.Common.{rules}
use Rattle.notes.proofs.reading.end_at.Goals as goal

pub returns : goal.returns
returns c = search rules

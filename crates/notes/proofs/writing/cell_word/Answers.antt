use Rattle.std.proofs.Common.{rules}
use Rattle.notes.proofs.writing.cell_word.Goals as goal

pub returns : goal.returns
returns c = search rules

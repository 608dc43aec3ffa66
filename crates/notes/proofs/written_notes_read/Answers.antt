use Rattle.notes.proofs.ReadsBack.{written_back}
use Rattle.notes.proofs.written_notes_read.Goals as goal

pub returns : goal.returns
returns c = written_back

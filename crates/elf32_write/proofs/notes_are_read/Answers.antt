use Rattle.elf32_write.proofs.Laws.{notes_are_read}
use Rattle.elf32_write.proofs.notes_are_read.Goals as goal

pub returns : goal.returns
returns c = notes_are_read

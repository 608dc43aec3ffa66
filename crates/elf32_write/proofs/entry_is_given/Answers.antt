use Rattle.elf32_write.proofs.Laws.{entry_is_given}
use Rattle.elf32_write.proofs.entry_is_given.Goals as goal

pub returns : goal.returns
returns c = entry_is_given

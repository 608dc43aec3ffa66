use Rattle.elf32_write.proofs.Laws.{original_is_held}
use Rattle.elf32_write.proofs.original_is_held.Goals as goal

pub returns : goal.returns
returns c = original_is_held

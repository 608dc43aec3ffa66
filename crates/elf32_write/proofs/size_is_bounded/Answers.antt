use Rattle.elf32_write.proofs.Laws.{size_is_bounded}
use Rattle.elf32_write.proofs.size_is_bounded.Goals as goal

pub returns : goal.returns
returns c = size_is_bounded

use Rattle.elf32_write.proofs.Loads.{file_loads}
use Rattle.elf32_write.proofs.file_loads.Goals as goal

pub returns : goal.returns
returns c = file_loads

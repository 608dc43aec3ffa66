use Rattle.elf32_write.proofs.FileBytes.{file_is_bytes}
use Rattle.elf32_write.proofs.file_is_bytes.Goals as goal

pub returns : goal.returns
returns c = file_is_bytes

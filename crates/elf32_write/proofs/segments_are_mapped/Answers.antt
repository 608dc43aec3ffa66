use Rattle.elf32_write.proofs.Carried.{segments_are_mapped}
use Rattle.elf32_write.proofs.segments_are_mapped.Goals as goal

pub returns : goal.returns
returns c = segments_are_mapped

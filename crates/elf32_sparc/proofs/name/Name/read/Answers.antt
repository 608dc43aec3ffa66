use Rattle.std.proofs.Common.{◌∙◌}
use Rattle.elf32_sparc.proofs.Functions.{cut_name}
use Rattle.elf32_sparc.proofs.name.Name.read.Goals as goal

pub returns : goal.returns
returns c = c.in_ok-bytes.ensures.items ∙ cut_name c.args.bytes.now c.name_length.result c.name_length.ensures.length

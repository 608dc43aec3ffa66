use Rattle.elf32_write.proofs.Segments.{delta-image}
use Rattle.elf32_write.proofs.layout.delta.Goals as goal

pub returns : goal.returns
returns c original is = rw (c.delta_above.ensures, c.segments.ensures, is) (delta-image original)

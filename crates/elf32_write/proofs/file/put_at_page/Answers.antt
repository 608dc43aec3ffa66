use Rattle.elf32_write.proofs.Common.{rules}
use Rattle.elf32_write.proofs.Segments.{page_is}
use Rattle.elf32_write.proofs.file.put_at_page.Goals as goal

pub returns : goal.returns
returns c = rw (c.in_ok-extend_from_slice.ensures.items, c.in_ok-pad_to.ensures, c.next_multiple_of.ensures.value, page_is c.len.result, c.len.ensures) (search rules)

use Rattle.elf32_write.proofs.Segments.{word_is}
use Rattle.elf32_write.proofs.Common.{◌∙◌}
use Rattle.elf32_write.proofs.layout.next_word.Goals as goal

pub next_multiple_of-requires-clause-fits : goal.next_multiple_of-requires-clause-fits
next_multiple_of-requires-clause-fits c = rw (word_is c.args.offset) c.requires

pub returns : goal.returns
returns c = c.next_multiple_of.ensures.value ∙ word_is c.args.offset

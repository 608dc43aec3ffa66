use Rattle.elf32_write.proofs.Common.{append_assoc, section_copy, section_entry}
use Rattle.elf32_write.proofs.Tables.{entries-more}
use Rattle.elf32_write.proofs.sections.put_sections.Goals as goal

pub loop-number-preserved : goal.loop-number-preserved
loop-number-preserved c =
    let more = entries-more (λ number. section_copy c.args.delta (section_entry c.args.bytes.now number)) c.loop-number.number in
    rw (more, c.in_ok-put_section.ensures, c.section_entry.ensures, c.loop-number.invariant, append_assoc)

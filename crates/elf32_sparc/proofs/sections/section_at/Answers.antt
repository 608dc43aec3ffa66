use Rattle.std.proofs.Common.{sym, ap, ◌∙◌, Some, arith}
use Rattle.elf32_sparc.proofs.Functions.{sections-at, sections-past}
use Rattle.elf32_sparc.proofs.sections.section_at.Goals as goal

pub returns-then-number-from : goal.returns-then-number-from
returns-then-number-from c =
    ap Some c.section.ensures
    ∙ sym (sections-at c.args.bytes.now c.args.number (omega (arith, c.if-number-from.true, c.from.ensures, c.section_count.ensures)))

pub returns-else-number-from : goal.returns-else-number-from
returns-else-number-from c =
    sym (sections-past c.args.bytes.now c.args.number (omega (arith, c.if-number-from.false, c.from.ensures, c.section_count.ensures)))

use Rattle.elf32_sparc.proofs.FirstFaults.{fault-by_header, fault-by_survey}
use Rattle.elf32_sparc.proofs.verdicts.verdict.Goals as goal

pub returns-in-Some : goal.returns-in-Some
returns-in-Some c = fault-by_header c.args.bytes.now c.header_fault.result c.in-Some.fault c.header_fault.ensures c.in-Some.is

pub returns : goal.returns
returns c =
    rw (c.fault.ensures, c.word_at.ensures, c.of.ensures)
    (fault-by_survey c.args.bytes.now c.header_fault.result c.header_fault.ensures c.in_default.is)

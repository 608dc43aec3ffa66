use Rattle.elf32_sparc.proofs.FirstFaults.{load_fault-by_header, load_fault-by_survey}
use Rattle.elf32_sparc.proofs.verdicts.load_verdict.Goals as goal

pub returns-in-Some : goal.returns-in-Some
returns-in-Some c = load_fault-by_header c.args.bytes.now c.header_fault.result c.in-Some.fault c.header_fault.ensures c.in-Some.is

pub returns : goal.returns
returns c =
    rw (c.run_fault.ensures, c.of.ensures)
    (load_fault-by_survey c.args.bytes.now c.header_fault.result c.header_fault.ensures c.in_default.is)

use Rattle.elf32_sparc.proofs.Common.{◌≡◌, length, arith, noted, survey_of}
use Rattle.elf32_sparc.proofs.Surveys.{texts-noted, memory-noted, starts, goes_on, ends}
use Rattle.elf32_sparc.proofs.survey.Survey.of.Goals as goal

pub loop-number-init : goal.loop-number-init
loop-number-init c = record {
  so_far = rw (c.empty-survey.ensures, c.word_at-table.ensures, c.half_at-number-end.ensures) (starts c.args.bytes.now);
  texts = rw c.empty-survey.ensures (omega arith);
  memory = rw c.empty-survey.ensures (omega arith);
}

pub loop-number-preserved : goal.loop-number-preserved
loop-number-preserved c =
    let file = c.args.bytes.now in
    let s = c.loop-number.survey in
    let h = c.read-header.result in
    let new : c.note.new.self ≡ noted (length file) s h = c.note.ensures in
    let so_far = goes_on file (length file) s (survey_of file) c.word_at-table.result c.half_at-number-end.result c.loop-number.number c.loop-number-test.true c.loop-number.invariant.so_far in
    record {
      so_far = rw (new, c.read-header.ensures.header) so_far;
      texts = rw new (omega (arith, texts-noted (length file) s h));
      memory = rw new (omega (arith, memory-noted (length file) s h, c.read-header.ensures.memory));
    }

pub returns : goal.returns
returns c = ends c.args.bytes.now (length c.args.bytes.now) c.loop-number.survey (survey_of c.args.bytes.now) _ c.half_at-number-end.result c.loop-number.number c.loop-number-test.false c.loop-number.invariant.so_far

use Rattle.elf32_write.proofs.Common.{◌∙◌, ap, map, arith, take_all, segment_seen, segments_end}
use Rattle.elf32_write.proofs.Segments.{seen_ends, end_more}
use Rattle.elf32_write.proofs.layout.segments_end.Goals as goal

pub next_multiple_of-requires-clause-fits : goal.next_multiple_of-requires-clause-fits
next_multiple_of-requires-clause-fits c =
    let ends = seen_ends c.args.added.now c.loop-segment.segment-index c.segment-item.result c.loop-segment-test.true c.segment-item.is c.args.end c.loop-segment.file_end c.loop-segment.invariant in omega (arith, ends, c.requires)

pub overflow_cast-file_end : goal.overflow_cast-file_end
overflow_cast-file_end c =
    let ends = seen_ends c.args.added.now c.loop-segment.segment-index c.segment-item.result c.loop-segment-test.true c.segment-item.is c.args.end c.loop-segment.file_end c.loop-segment.invariant in omega (arith, ends, c.requires, c.len.ensures)

pub overflow_add-file_end : goal.overflow_add-file_end
overflow_add-file_end c =
    let ends = seen_ends c.args.added.now c.loop-segment.segment-index c.segment-item.result c.loop-segment-test.true c.segment-item.is c.args.end c.loop-segment.file_end c.loop-segment.invariant in
    omega (arith, ends, c.next_multiple_of.ensures.value, c.requires, c.len.ensures)

pub loop-segment-preserved : goal.loop-segment-preserved
loop-segment-preserved c =
    rw (end_more c.args.added.now c.loop-segment.segment-index c.segment-item.result c.loop-segment-test.true c.segment-item.is c.args.end c.loop-segment.file_end c.loop-segment.invariant) (omega (arith, c.next_multiple_of.ensures.value, c.len.ensures))

pub returns : goal.returns
returns c = rw (take_all c.loop-segment.segment-index c.args.added.now c.loop-segment-test.false) at c.loop-segment.invariant

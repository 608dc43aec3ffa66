use Rattle.elf32_write.proofs.Common.{arith, append_assoc, take_all}
use Rattle.elf32_write.proofs.Segments.{seen_ends, end_more, headers_more}
use Rattle.elf32_write.proofs.headers.put_added_headers.Goals as goal

pub next_multiple_of-offset-requires-clause-fits : goal.next_multiple_of-offset-requires-clause-fits
next_multiple_of-offset-requires-clause-fits c =
    let ends = seen_ends c.args.added.now c.loop-segment.segment-index c.segment-item.result c.loop-segment-test.true c.segment-item.is c.args.end c.loop-segment.file_end c.loop-segment.invariant.end in omega (arith, ends, c.requires)

pub added_header-requires : goal.added_header-requires
added_header-requires c =
    let ends = seen_ends c.args.added.now c.loop-segment.segment-index c.segment-item.result c.loop-segment-test.true c.segment-item.is c.args.end c.loop-segment.file_end c.loop-segment.invariant.end in omega (arith, ends, c.requires)

pub overflow_add-file_end : goal.overflow_add-file_end
overflow_add-file_end c =
    let ends = seen_ends c.args.added.now c.loop-segment.segment-index c.segment-item.result c.loop-segment-test.true c.segment-item.is c.args.end c.loop-segment.file_end c.loop-segment.invariant.end in
    omega (arith, ends, c.next_multiple_of-offset.ensures.value, c.requires, c.len.ensures)

pub loop-segment-preserved : goal.loop-segment-preserved
loop-segment-preserved c =
    let more = end_more c.args.added.now c.loop-segment.segment-index c.segment-item.result c.loop-segment-test.true c.segment-item.is c.args.end c.loop-segment.file_end c.loop-segment.invariant.end in
    let headers = headers_more c.args.added.now c.loop-segment.segment-index c.segment-item.result c.loop-segment-test.true c.segment-item.is c.args.end c.loop-segment.file_end c.loop-segment.invariant.end in
    let offset = c.next_multiple_of-offset.ensures.value in
    record {
      end = rw more (omega (arith, offset, c.len.ensures));
      out = rw (headers, ← offset, c.in_ok-put_header.ensures, c.added_header.ensures, c.loop-segment.invariant.out, append_assoc);
    }

pub returns : goal.returns
returns c = rw (take_all c.loop-segment.segment-index c.args.added.now c.loop-segment-test.false) at c.loop-segment.invariant.out

use Rattle.elf32_write.proofs.Segments.{bytes_more}
use Rattle.elf32_write.proofs.file.put_segments.Goals as goal

pub loop-segment-preserved : goal.loop-segment-preserved
loop-segment-preserved c =
    let more = bytes_more c.args.added.now c.loop-segment.segment-index c.segment-item.result c.loop-segment-test.true c.segment-item.is c.args.out.now.items in
    rw (more, ← c.loop-segment.invariant, c.in_ok-put_at_page.ensures, c.deref.ensures.value)

use Rattle.elf32_write.proofs.Common.{big_bytes}
use Rattle.elf32_write.proofs.Tables.{fields-more}
use Rattle.elf32_write.proofs.bytes.put_halves.Goals as goal

pub loop-half-preserved : goal.loop-half-preserved
loop-half-preserved c =
    fields-more (big_bytes 2) c.args.halves.now c.loop-half.half-index _ _ _ _ c.loop-half-test.true c.loop-half.invariant
    c.write_u16.ensures c.in_ok-extend_from_slice.ensures.items

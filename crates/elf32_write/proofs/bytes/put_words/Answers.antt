use Rattle.elf32_write.proofs.Common.{big_bytes}
use Rattle.elf32_write.proofs.Tables.{fields-more}
use Rattle.elf32_write.proofs.bytes.put_words.Goals as goal

pub loop-word-preserved : goal.loop-word-preserved
loop-word-preserved c =
    fields-more (big_bytes 4) c.args.words.now c.loop-word.word-index _ _ _ _ c.loop-word-test.true c.loop-word.invariant
    c.write_u32.ensures c.in_ok-extend_from_slice.ensures.items

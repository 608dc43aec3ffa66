use Rattle.elf32_sparc.proofs.Readings.{words_of-more}
use Rattle.elf32_sparc.proofs.program.read_words.Goals as goal

pub loop-number-preserved : goal.loop-number-preserved
loop-number-preserved c =
    let xs = c.loop-number.words.items in
    rw (c.in_ok-push.ensures.items, c.padded_word_at.ensures) (words_of-more c.args.bytes.now xs _ c.args.count c.loop-number.number c.loop-number-test.true c.loop-number.invariant)

use Rattle.v8_step.proofs.Common.{arith, ◌∙◌, length-set}
use Rattle.v8_step.proofs.FrameWords.{word_read}
use Rattle.v8_step.proofs.window_moves.frame_words.Goals as goal

pub loop-i-preserved : goal.loop-i-preserved
loop-i-preserved c = record {
  count = length-set c.loop-i.word-items c.loop-i.i _ ∙ c.loop-i.invariant.count;
  read =
      word_read c.loop-i.word-items c.args.bytes.now c.loop-i.i _ (omega arith) c.loop-i.invariant.read
      c.word_at.ensures;
}

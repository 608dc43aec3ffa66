use Rattle.std.proofs.Common.{◌∙◌, arith}
use Rattle.v8_windows.proofs.FrameLoops.{word_loaded, zero_kept}
use Rattle.v8_windows.proofs.windows.load_frame.Goals as goal

pub loop-i-preserved : goal.loop-i-preserved
loop-i-preserved c = record {
  frame =
      rw c.place.ensures.place (word_loaded c.args.registers.now c.loop-i.registers c.args.window c.args.words.now
      c.loop-i.i (omega arith) (omega arith) c.loop-i.invariant.frame);
  zero =
      rw c.place.ensures.place (zero_kept c.loop-i.registers c.args.window _ c.loop-i.i ∙ c.loop-i.invariant.zero);
}

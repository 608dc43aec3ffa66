use Rattle.std.proofs.Common.{arith}
use Rattle.cfg_blocks.proofs.Entering.{counted_step}
use Rattle.cfg_blocks.proofs.entries.CutText.enter_all.Goals as goal

pub loop-block-preserved : goal.loop-block-preserved
loop-block-preserved c = λ k h.
    counted_step _ _ _ _ _ _ _ _ _ (c.loop-block.invariant k h) c.is_bare-is_bare.ensures c.ways.ensures
    (c.enter_by.ensures k (omega arith))

use Rattle.std.proofs.Common.{arith}
use Rattle.liveness.proofs.Adding.{adds_all, adds_next}
use Rattle.liveness.proofs.chart.Chart.read_blocks.Goals as goal

pub loop-block-preserved : goal.loop-block-preserved
loop-block-preserved c = record {
  len = omega (arith, c.read_block.ensures.len, c.loop-block.invariant.len);
  read = λ p. adds_next _ _ _ _ _ _ (omega arith) (c.loop-block.invariant.read p) (c.read_block.ensures.read p);
}

pub returns-clause-read : goal.returns-clause-read
returns-clause-read c = λ p. adds_all _ _ _ _ _ _ (c.loop-block.invariant.read p) (omega arith)

use Rattle.std.proofs.Common.{arith}
use Rattle.liveness.proofs.Adding.{adds_next}
use Rattle.liveness.proofs.chart.Chart.read_node.Goals as goal

pub loop-word-preserved : goal.loop-word-preserved
loop-word-preserved c = record {
  len = omega (arith, c.read_word.ensures.len, c.loop-word.invariant.len);
  read = λ p. adds_next _ _ _ _ _ _ (omega arith) (c.loop-word.invariant.read p) (c.read_word.ensures.read p);
}

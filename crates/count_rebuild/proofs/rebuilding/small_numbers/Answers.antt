use Rattle.count_rebuild.proofs.Common.{arith, common_steps}
use Rattle.count_rebuild.proofs.rebuilding.small_numbers.Goals as goal

pub loop-edge-preserved : goal.loop-edge-preserved
loop-edge-preserved c = record {
  are = grind (arith, common_steps);
  small = λ e h. grind (arith, common_steps, c.loop-edge.invariant.small e);
}

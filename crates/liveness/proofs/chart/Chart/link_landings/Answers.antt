use Rattle.std.proofs.Common.{arith}
use Rattle.liveness.proofs.Adding.{adds_all, adds_next}
use Rattle.liveness.proofs.Spots.{few_all, few_next}
use Rattle.liveness.proofs.chart.Chart.link_landings.Goals as goal

pub loop-block-preserved : goal.loop-block-preserved
loop-block-preserved c = record {
  added = adds_next _ _ _ _ _ _ (omega arith) c.loop-block.invariant.added c.in_ok-link_onto_block.ensures.added;
  few = few_next c.args.self.now.graph.now c.args.self.now.of_firsts _ _ _ _ (omega arith) c.loop-block.invariant.few
      c.in_ok-link_onto_block.ensures.few;
}

pub returns-clause-few : goal.returns-clause-few
returns-clause-few c =
    few_all c.args.self.now.graph.now c.args.self.now.of_firsts _ _ _ (omega arith) c.loop-block.invariant.few

pub returns-clause-added : goal.returns-clause-added
returns-clause-added c = adds_all _ _ _ _ _ _ c.loop-block.invariant.added (omega arith)

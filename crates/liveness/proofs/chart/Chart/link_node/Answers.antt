use Rattle.std.proofs.Common.{arith}
use Rattle.liveness.proofs.Adding.{adds_all, adds_link, adds_next}
use Rattle.liveness.proofs.chart.Chart.link_node.Goals as goal

pub loop-word-preserved : goal.loop-word-preserved
loop-word-preserved c = record {
  added =
      adds_next _ _ _ _ _ _ (omega arith) c.loop-word.invariant.added
      (adds_link _ _ _ _ c.in_ok-push.ensures.items c.link_next.ensures);
  few = omega (arith, c.in_ok-push.ensures.len, c.loop-word.invariant.few);
}

pub returns-clause-added : goal.returns-clause-added
returns-clause-added c = adds_all _ _ _ _ _ _ c.loop-word.invariant.added (omega arith)

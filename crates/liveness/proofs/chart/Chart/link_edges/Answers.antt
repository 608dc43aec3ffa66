use Rattle.liveness.proofs.Common.{arith, List, length, ap, Edge}
use Rattle.liveness.proofs.Adding.{adds_all, adds_next}
use Rattle.liveness.proofs.chart.Chart.link_edges.Goals as goal

pub loop-e-preserved : goal.loop-e-preserved
loop-e-preserved c = record {
  added = adds_next _ _ _ _ _ _ (omega arith) c.loop-e.invariant.added
      (rw c.edge_at.ensures.edge at c.in_ok-link_edge.ensures.added);
  few = omega (arith, c.in_ok-link_edge.ensures.few, c.loop-e.invariant.few);
}

pub returns-clause-added : goal.returns-clause-added
returns-clause-added c =
    adds_all _ _ _ _ _ _ c.loop-e.invariant.added
    (omega (arith, ap (λ (l : List Edge). length l) c.edges-e-end.ensures.edges))

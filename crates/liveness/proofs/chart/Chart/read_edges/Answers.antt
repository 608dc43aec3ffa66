use Rattle.std.proofs.Common.{arith}
use Rattle.liveness.proofs.Adding.{adds_next}
use Rattle.liveness.proofs.chart.Chart.read_edges.Goals as goal

pub loop-e-preserved : goal.loop-e-preserved
loop-e-preserved c = record {
  len = omega (arith, c.read_edge.ensures.len, c.loop-e.invariant.len);
  read = λ p.
      adds_next _ _ _ _ _ _ (omega arith) (c.loop-e.invariant.read p)
      (rw c.edge_at.ensures.edge at (rw c.names_on.ensures at (c.read_edge.ensures.read p)));
}

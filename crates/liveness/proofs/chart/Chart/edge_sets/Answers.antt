use Rattle.liveness.proofs.Common.{arith, ◌≡◌, ◌↔◌, true, Part, has, edge_at, IsOnward}
use Rattle.liveness.proofs.Joining.{pushed}
use Rattle.liveness.proofs.chart.Chart.edge_sets.Goals as goal

pub loop-e-preserved : goal.loop-e-preserved
loop-e-preserved c =
    let here : (x : Part) → (has c.onward.result x ≡ true)
    ↔ IsOnward c.args.self.now.graph.now (edge_at c.args.self.now.graph.now c.loop-e.e) c.args.sets.now x =
    rw c.edge_at.ensures.edge at c.onward.ensures in
    record {
      len = omega (arith, c.in_ok-push.ensures.len, c.loop-e.invariant.len);
      onward = λ j l.
          rw c.in_ok-push.ensures.items (pushed (λ i s. (x : Part) → (has s x ≡ true)
          ↔ IsOnward c.args.self.now.graph.now (edge_at c.args.self.now.graph.now i) c.args.sets.now x)
          c.loop-e.all.items c.onward.result c.loop-e.e c.loop-e.invariant.len c.loop-e.invariant.onward here j l);
    }

use Rattle.liveness.proofs.Common.{◌≡◌, ◌↔◌, ℕ, ◌<◌, length, Part, edge_at, In, IsOnward}
use Rattle.liveness.proofs.chart.Chart.edge_sets.Given as goal

abbrev pub invariant-loop-e : goal.invariant-loop-e
invariant-loop-e l = record {
  len : length l.all.items ≡ l.e;
  onward : (j : ℕ) → j < l.e → (x : Part) → In l.all.items j x ↔ IsOnward l.self.graph.now (edge_at l.self.graph.now j) l.sets x;
}

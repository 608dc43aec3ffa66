use Rattle.liveness.proofs.Common.{◌≡◌, ℕ, length, named_on, Adds, Between, In, ReadsOnEdge}
use Rattle.liveness.proofs.chart.Chart.read_edges.Given as goal

abbrev pub invariant-loop-e : goal.invariant-loop-e
invariant-loop-e l = record {
  len : length l.all.items ≡ length l.fn.all.items;
  read : (p : ℕ) → Adds (In l.fn.all.items p) (In l.all.items p)
      (Between (ReadsOnEdge l.self.text.now l.self.graph.now (named_on l.snips) p) 0 l.e);
}

use Rattle.liveness.proofs.Common.{◌+◌, ◌≤◌, length, Contains, edge_at, Adds, Between, LinksAlong}
use Rattle.liveness.proofs.chart.Chart.link_edges.Given as goal

abbrev pub invariant-loop-e : goal.invariant-loop-e
invariant-loop-e l = record {
  added :
      Adds (Contains l.fn.links.items) (Contains l.links.items)
      (Between (λ e. LinksAlong l.self.text.now l.self.graph.now (edge_at l.self.graph.now e)) 0 l.e);
  few : length l.links.items ≤ length l.fn.links.items + l.e;
}

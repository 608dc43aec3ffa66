use Rattle.liveness.proofs.Common.{◌≡◌, ◌+◌, ◌≤◌, length, Contains, Adds, Between, first_in, next_link}
use Rattle.liveness.proofs.chart.Chart.link_node.Given as goal

abbrev pub invariant-loop-word : goal.invariant-loop-word
invariant-loop-word l = record {
  added :
      Adds (Contains l.fn.links.items) (Contains l.links.items)
      (Between (λ word link. next_link l.self.text.now l.self.graph.now l.node word ≡ link) (first_in l.self.graph.now l.node) l.word);
  few : length l.links.items + first_in l.self.graph.now l.node ≤ length l.fn.links.items + l.word;
}

use Rattle.liveness.proofs.Common.{◌+◌, ◌≤◌, length, Contains, Adds, Between, LinksLanding, first_in}
use Rattle.liveness.proofs.chart.Chart.link_words.Given as goal

abbrev pub invariant-loop-word : goal.invariant-loop-word
invariant-loop-word l = record {
  added :
      Adds (Contains l.fn.links.items) (Contains l.links.items)
      (Between (LinksLanding l.self.graph.now l.node) (first_in l.self.graph.now l.node) l.word);
  few : length l.links.items + first_in l.self.graph.now l.node ≤ length l.fn.links.items + l.word;
}

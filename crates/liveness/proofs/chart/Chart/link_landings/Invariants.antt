use Rattle.liveness.proofs.Common.{◌+◌, ◌*◌, ◌≤◌, length, Contains, Adds, Between, LinksOntoBlock}
use Rattle.liveness.proofs.Held.{start_of}
use Rattle.liveness.proofs.chart.Chart.link_landings.Given as goal

abbrev pub invariant-loop-block : goal.invariant-loop-block
invariant-loop-block l = record {
  added : Adds (Contains l.fn.links.items) (Contains l.links.items)
      (Between (LinksOntoBlock l.self.graph.now l.self.places.now.marks.items) 0 l.block);
  few :
      length l.links.items
      ≤ length l.fn.links.items + 2 * start_of l.self.graph.now.blocks.words l.self.graph.now.blocks.firsts l.block;
}

use Rattle.liveness.proofs.Common.{◌+◌, ◌*◌, ◌≤◌, length, Contains, Adds, Between, LinksIn}
use Rattle.liveness.proofs.Held.{start_of}
use Rattle.liveness.proofs.chart.Chart.link_blocks.Given as goal

abbrev pub invariant-loop-block : goal.invariant-loop-block
invariant-loop-block l = record {
  added : Adds (Contains l.fn.links.items) (Contains l.links.items) (Between (LinksIn l.self.text.now l.self.graph.now) 0 l.block);
  few :
      length l.links.items
      ≤ length l.fn.links.items + 2 * start_of l.self.graph.now.blocks.words l.self.graph.now.blocks.firsts l.block;
}

use Rattle.liveness.specs.Search.{AreJoined}
use Rattle.liveness.proofs.Held.{start_of}
use Rattle.liveness.proofs.chart.Chart.join_blocks.Given as goal

abbrev pub invariant-loop-block : goal.invariant-loop-block
invariant-loop-block l =
    AreJoined l.self.graph.now l.sets (start_of l.self.graph.now.blocks.words l.self.graph.now.blocks.firsts l.block) l.words.items

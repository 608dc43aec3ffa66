use Rattle.liveness.specs.Search.{AreJoined}
use Rattle.liveness.proofs.chart.Chart.join_block.Given as goal

abbrev pub invariant-loop-word : goal.invariant-loop-word
invariant-loop-word l = AreJoined l.self.graph.now l.sets l.word l.words.items

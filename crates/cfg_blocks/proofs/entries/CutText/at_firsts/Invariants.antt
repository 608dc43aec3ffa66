use Rattle.cfg_blocks.proofs.Common.{◌≡◌, map, into_first, below}
use Rattle.cfg_blocks.proofs.entries.CutText.at_firsts.Given as goal

abbrev pub invariant-loop-block : goal.invariant-loop-block
invariant-loop-block l = l.at.items ≡ map (into_first l.intos l.self.list.now.blocks.firsts) (below l.block)

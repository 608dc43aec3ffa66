use Rattle.cfg_blocks.proofs.Common.{◌≡◌, length, map, below, block_end_in}
use Rattle.cfg_blocks.proofs.list.block_ends.Given as goal

abbrev pub invariant-loop-block : goal.invariant-loop-block
invariant-loop-block l = (l.ends.items ≡ map (block_end_in l.word_ends l.firsts) (below l.block)) ×
    (length l.ends.items ≡ l.block)

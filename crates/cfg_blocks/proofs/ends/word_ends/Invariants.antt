use Rattle.cfg_blocks.proofs.Common.{◌≡◌, length, map, end_at, below}
use Rattle.cfg_blocks.proofs.ends.word_ends.Given as goal

abbrev pub invariant-loop-word : goal.invariant-loop-word
invariant-loop-word l = (l.ends.items ≡ map (end_at l.text) (below l.word)) × (length l.ends.items ≡ l.word)

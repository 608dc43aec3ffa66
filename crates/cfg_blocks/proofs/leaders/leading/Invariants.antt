use Rattle.cfg_blocks.proofs.Common.{◌≡◌, filter, below, leads_by}
use Rattle.cfg_blocks.proofs.leaders.leading.Given as goal

abbrev pub invariant-loop-word : goal.invariant-loop-word
invariant-loop-word l = l.words.items ≡ filter (leads_by l.ends l.marks) (below l.word)

use Rattle.span_tree.proofs.Common.{◌≡◌, ◌+◌, map, below, sum_below, loops_at}
use Rattle.span_tree.proofs.loops.loops_at_words.Given as goal

abbrev pub invariant-loop-word : goal.invariant-loop-word
invariant-loop-word l = record {
  loops : l.loops.items ≡ map (loops_at l.blocks.blocks) (below l.word);
  about : l.about + sum_below l.word l.bounds.ends.items ≡ sum_below l.word l.bounds.begins.items;
}

use Rattle.flow_tree.proofs.Common.{◌≡◌, ◌≤◌, count_below, marked}
use Rattle.flow_tree.proofs.spanning.count_marked.Given as goal

abbrev pub invariant-loop-mark : goal.invariant-loop-mark
invariant-loop-mark l = record {
  count : l.n ≡ count_below l.mark-index (marked l.marks);
  at_most : l.n ≤ l.mark-index;
}

use Rattle.span_tree.proofs.Common.{◌≡◌, count_below, marked}
use Rattle.span_tree.proofs.Numbered.{cells_below}
use Rattle.span_tree.proofs.spanning.number.Given as goal

abbrev pub invariant-loop-is_counted : goal.invariant-loop-is_counted
invariant-loop-is_counted l = record {
  cells : l.cells.items ≡ cells_below (marked l.counted) l.is_counted-index;
  count : l.count ≡ count_below l.is_counted-index (marked l.counted);
}

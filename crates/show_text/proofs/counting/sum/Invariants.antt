use Rattle.show_text.proofs.Common.{◌≡◌, ◌*◌, ◌≤◌, take, sum}
use Rattle.show_text.proofs.counting.sum.Given as goal

abbrev pub invariant-loop-count : goal.invariant-loop-count
invariant-loop-count l = record {
  all : l.sum ≡ sum (take l.count-index l.counts);
  most : l.sum ≤ l.count-index * 18446744073709551616;
}

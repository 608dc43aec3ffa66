use Rattle.instr_counts.proofs.Common.{◌≡◌, ◌*◌, ◌≤◌, take, sum}
use Rattle.instr_counts.proofs.printing.sum_of.Given as goal

abbrev pub invariant-loop-count : goal.invariant-loop-count
invariant-loop-count l = record {
  all : l.sum ≡ sum (take l.count-index l.visits);
  most : l.sum ≤ l.count-index * 1267650600228229401496703205376;
}

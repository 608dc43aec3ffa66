use Rattle.std.proofs.Common.{◌≡◌, length, take}
use Rattle.scavenge.proofs.regs_of.Given as goal

abbrev pub invariant-loop-number : goal.invariant-loop-number
invariant-loop-number l = record {
  found : l.found ≡ length l.yielded;
  size : length l.regs ≡ 5;
  regs : take l.found l.regs ≡ l.yielded;
}

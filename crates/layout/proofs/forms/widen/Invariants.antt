use Rattle.std.proofs.Common.{◌≡◌, length}
use Rattle.layout.proofs.Passing.{IsPassing}
use Rattle.layout.proofs.forms.widen.Given as goal

abbrev pub invariant-loop-n : goal.invariant-loop-n
invariant-loop-n l = record {
  pass : IsPassing l.entries l.fn.forms l.forms l.at l.left l.n l.before l.here l.widened;
  count : length l.at ≡ length l.fn.at;
}

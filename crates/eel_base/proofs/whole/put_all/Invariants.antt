use Rattle.std.proofs.Common.{◌≡◌, ◌≤◌, ◌-◌, length, take}
use Rattle.eel_base.specs.Outside.{appended}
use Rattle.eel_base.proofs.whole.put_all.Given as goal

abbrev pub invariant-loop-at : goal.invariant-loop-at
invariant-loop-at g l = record {
  within : l.at ≤ length l.bytes;
  taken : g.S.Sink.taken l.s ≡ appended (g.S.Sink.taken l.initial.s) (take l.at l.bytes);
  later : g.S.Sink.faults l.initial.s ≤ g.S.Sink.faults l.s;
}

abbrev pub decreases-loop-at : goal.decreases-loop-at
decreases-loop-at g l = length l.bytes - l.at

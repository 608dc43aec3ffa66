-- The steps so far were all made by a machine that had not ended, and it has not ended now.
use Rattle.std.proofs.Common.{◌≡◌, ◌≤◌, ◌-◌, None}
use Rattle.eel_base.specs.Outside.{appended}
use Rattle.v8_step.specs.Run.{run, run_puts}
use Rattle.v8_runner.specs.Made.{AreMade}
use Rattle.v8_runner.proofs.make_steps.Given as goal

abbrev pub invariant-loop-steps : goal.invariant-loop-steps
invariant-loop-steps g l = record {
  live : l.m.ending ≡ None;
  within : l.steps ≤ l.limit;
  state : l.m ≡ run l.initial.m l.steps;
  made : AreMade l.initial.m l.steps;
  out : g.O.Sink.taken l.out ≡ appended (g.O.Sink.taken l.initial.out) (run_puts l.initial.m l.steps 1);
  err : g.E.Sink.taken l.err ≡ appended (g.E.Sink.taken l.initial.err) (run_puts l.initial.m l.steps 2);
  out_faults : g.O.Sink.faults l.initial.out ≤ g.O.Sink.faults l.out;
  err_faults : g.E.Sink.faults l.initial.err ≤ g.E.Sink.faults l.err;
}

abbrev pub decreases-loop-steps : goal.decreases-loop-steps
decreases-loop-steps g l = l.limit - l.steps

-- What comes of a run of the machine.
use Rattle.std.proofs.Common.{◌≡◌, ℕ, suc, ◌+◌, ◌<◌, ◌⊎◌, inl, inr, List, ◌++◌, length, take, Option, None, refl, ap, sym, ◌∙◌, arith}
use Rattle.std.proofs.Math.Nat.{eq-or-lt_of_le}
use Rattle.std.proofs.Math.Seq.{take-append-add}
use Rattle.eel_base.specs.Outside.{appended, TookPart}
use Rattle.eel_base.proofs.Parts.{appended-appended}
use Rattle.v8_step.specs.Machine.{FailsAt}
use Rattle.v8_step.specs.State.{State}
use Rattle.v8_step.specs.Step.{puts_of}
use Rattle.v8_step.specs.Run.{run, run_puts}
use Rattle.v8_runner.specs.Made.{AreMade}
use Rattle.v8_runner.specs.Runs.{IsStop, RunTakes}
use Rattle.v8_runner.specs.declared.Stop.{Stop}
use Rattle.v8_runner.specs.declared.Stop.TheVariants.{Limit, Ended, SinkFault}
use Rattle.eel_said.specs.Outcome.{Stream}
use Rattle.v8_step.proofs.Quiet.{appended_nothing}
use Rattle.eel_reports.specs.Answers.Run.{IsRun}
use Rattle.eel_reports.specs.Code.{stopped_of}

-- a part of b after all of a is a part of both
took-rest : (old new : Option (List ℕ)) (a b : List ℕ) → TookPart (appended old a) new b → TookPart old new (a ++ b)
took-rest old new a b (count, took) =
    (length a + count, took ∙ appended-appended old a (take count b) ∙ ap (appended old) (sym (take-append-add a b count)))

-- a part of the bytes of the next step, after those of all steps before it
took-step : (s0 : State) (steps descriptor : ℕ) (old new : Option (List ℕ))
    → TookPart (appended old (run_puts s0 steps descriptor)) new (puts_of (run s0 steps) descriptor)
    → TookPart old new (run_puts s0 (suc steps) descriptor)
took-step s0 steps descriptor old new part = took-rest old new (run_puts s0 steps descriptor) (puts_of (run s0 steps) descriptor) part

-- the next step is made too, by a state that hasn't ended
made-next : (s0 : State) (steps : ℕ) → AreMade s0 steps → (run s0 steps).ending ≡ None → AreMade s0 (suc steps)
made-next s0 steps made none k less = at (eq-or-lt_of_le (omega arith))
  where
    at : (k ≡ steps) ⊎ (k < steps) → (run s0 k).ending ≡ None
    at (inl same) = rw same none
    at (inr before) = made k before

-- `s` is where the run stands when it stops
pub run_comes : (s0 s : State) (limit steps : ℕ) (stop : Stop) (old_out new_out old_err new_err : Stream)
    → s ≡ run s0 steps → IsStop s.ending limit steps stop → AreMade s0 steps
    → RunTakes old_out.taken new_out.taken (run_puts s0 steps 1) (puts_of s 1) stop
    → RunTakes old_err.taken new_err.taken (run_puts s0 steps 2) (puts_of s 2) stop
    → (stop ≡ SinkFault → FailsAt (puts_of s 1) old_out.faults new_out.faults ⊎ FailsAt (puts_of s 2) old_err.faults new_err.faults)
    → IsRun s0 limit old_out new_out old_err new_err (stopped_of stop steps)
run_comes s0 s limit steps Limit old_out new_out old_err new_err is (all, none) made out err cause = record {
  made = made;
  stops = inl all;
  ends = rw is at none;
  out = out;
  err = err ∙ sym (appended_nothing (appended old_err.taken (run_puts s0 steps 2)));
}
run_comes s0 s limit steps (Ended ending) old_out new_out old_err new_err is (within, ends) made out err cause = record {
  made = made;
  stops = inr (within, (ending, rw is at ends));
  ends = rw is at ends;
  out = out;
  err = err ∙ sym (appended_nothing (appended old_err.taken (run_puts s0 steps 2)));
}
run_comes s0 s limit steps SinkFault old_out new_out old_err new_err is (within, none) made out err cause = record {
  steps = steps;
  within = within;
  made = made-next s0 steps made (rw is at none);
  out = took-step s0 steps 1 old_out.taken new_out.taken (rw is at out);
  err = took-step s0 steps 2 old_err.taken new_err.taken (rw is at err);
  failed = elim (cause refl) [ inl fails ↦ inl fails.1 | inr fails ↦ inr fails.1 ];
}

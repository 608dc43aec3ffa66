use Rattle.eel.proofs.Common.{sym, refl, inl, ◌∙◌, notes_seen}
use Rattle.eel_reports.proofs.Running.{run_comes}
use Rattle.eel.proofs.Dumping.{dump_comes, has_stopped, run_broken}
use Rattle.eel.proofs.dumps.dump_machine.Goals as goal

pub returns-then-was_broken-clause-dumped : goal.returns-then-was_broken-clause-dumped
returns-then-was_broken-clause-dumped g c = λ input. inl (
  run_broken _ _ _ _ _ _ c.run-end.result.stop c.run-end.result.steps
      (run_comes _ _ _ _ _ _ _ _ _ c.run-end.ensures.state c.run-end.ensures.stop c.run-end.ensures.made
      c.run-end.ensures.out c.run-end.ensures.err c.run-end.ensures.cause)
      (sym c.was_broken.ensures ∙ c.if-was_broken.true),
  refl,
)

pub returns-in-Err-clause-dumped : goal.returns-in-Err-clause-dumped
returns-in-Err-clause-dumped g c = λ input. (
  has_stopped _ _ _ _ c.run-end.result.stop c.run-end.result.steps
      (run_comes _ _ _ _ _ _ _ _ _ c.run-end.ensures.state c.run-end.ensures.stop c.run-end.ensures.made
      c.run-end.ensures.out c.run-end.ensures.err c.run-end.ensures.cause)
      (sym c.was_broken.ensures ∙ c.if-was_broken.false),
  refl,
)

pub returns-clause-dumped : goal.returns-clause-dumped
returns-clause-dumped g c = λ input.
    dump_comes _ _ _ _ c.run-end.result.stop c.run-end.result.steps
    (run_comes _ _ _ _ _ _ _ _ _ c.run-end.ensures.state c.run-end.ensures.stop c.run-end.ensures.made
    c.run-end.ensures.out c.run-end.ensures.err c.run-end.ensures.cause)
    (sym c.was_broken.ensures ∙ c.if-was_broken.false) (notes_seen c.args.dumping.notes.now) c.args.dumping.name.now _
    (rw (c.deref.ensures.value, c.in-Ok.ensures, c.run-end.ensures.state, c.outcome_of.ensures) at c.put_dump.ensures.put)

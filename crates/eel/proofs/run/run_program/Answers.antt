use Rattle.eel.proofs.Common.{refl, ran}
use Rattle.eel.proofs.Dumping.{not_run}
use Rattle.eel.proofs.run.run_program.Goals as goal

pub returns-in-Ok-clause-runs : goal.returns-in-Ok-clause-runs
returns-in-Ok-clause-runs g c =
    let begun = c.in-Ok.ensures.begun in
    ran _ begun.read begun.input begun.fed begun.loads
    (rw begun.is at c.run_machine.ensures.ran, c.begin.ensures.kept)

pub returns-clause-runs : goal.returns-clause-runs
returns-clause-runs g c = not_run _ _ _ _ _ _ _ c.in-Err.ensures.unbegun (refl, refl) c.begin.ensures.kept

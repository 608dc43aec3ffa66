use Rattle.code_runs.proofs.Ours.{ours_are_stored}
use Rattle.code_runs.proofs.ours_are_stored.Goals as goal

pub returns : goal.returns
returns c = ours_are_stored

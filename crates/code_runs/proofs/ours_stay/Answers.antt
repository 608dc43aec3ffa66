use Rattle.code_runs.proofs.Ours.{ours_stay}
use Rattle.code_runs.proofs.ours_stay.Goals as goal

pub returns : goal.returns
returns c = ours_stay

use Rattle.two_runs.proofs.Alike.{steps_alike}
use Rattle.two_runs.proofs.steps_alike.Goals as goal

pub returns : goal.returns
returns c = steps_alike

use Rattle.switch_runs.proofs.Numbered.{opens_are_one}
use Rattle.switch_runs.proofs.opens_are_one.Goals as goal

pub returns : goal.returns
returns c = opens_are_one

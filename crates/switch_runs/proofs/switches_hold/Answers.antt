use Rattle.switch_runs.proofs.Whole.{switches_hold}
use Rattle.switch_runs.proofs.switches_hold.Goals as goal

pub returns : goal.returns
returns c = switches_hold

use Rattle.switch_runs.proofs.Walking.{switches_are_compared}
use Rattle.switch_runs.proofs.switches_are_compared.Goals as goal

pub returns : goal.returns
returns c = switches_are_compared

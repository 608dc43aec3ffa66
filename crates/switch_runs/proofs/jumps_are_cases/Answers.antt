use Rattle.switch_runs.proofs.Walking.{jumps_are_cases}
use Rattle.switch_runs.proofs.jumps_are_cases.Goals as goal

pub returns : goal.returns
returns c = jumps_are_cases

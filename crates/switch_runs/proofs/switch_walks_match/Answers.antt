use Rattle.switch_runs.proofs.Walking.{switch_walks_match}
use Rattle.switch_runs.proofs.switch_walks_match.Goals as goal

pub returns : goal.returns
returns c = switch_walks_match

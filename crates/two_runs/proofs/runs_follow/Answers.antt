use Rattle.two_runs.proofs.Follows.{runs_follow}
use Rattle.two_runs.proofs.runs_follow.Goals as goal

pub returns : goal.returns
returns c = runs_follow

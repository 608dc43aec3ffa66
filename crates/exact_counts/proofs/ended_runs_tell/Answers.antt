use Rattle.exact_counts.proofs.Ends.{ended_runs_tell}
use Rattle.exact_counts.proofs.ended_runs_tell.Goals as goal

pub returns : goal.returns
returns c = ended_runs_tell

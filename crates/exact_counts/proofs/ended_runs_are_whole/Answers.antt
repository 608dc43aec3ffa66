use Rattle.exact_counts.proofs.Clear.{ended_runs_are_whole}
use Rattle.exact_counts.proofs.ended_runs_are_whole.Goals as goal

pub returns : goal.returns
returns c = ended_runs_are_whole

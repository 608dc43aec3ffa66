use Rattle.exact_counts.proofs.Clear.{counts_of_ended_runs_are_exact}
use Rattle.exact_counts.proofs.counts_of_ended_runs_are_exact.Goals as goal

pub returns : goal.returns
returns c = counts_of_ended_runs_are_exact

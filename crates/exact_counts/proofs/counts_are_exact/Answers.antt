use Rattle.exact_counts.proofs.Exact.{counts_are_exact}
use Rattle.exact_counts.proofs.counts_are_exact.Goals as goal

pub returns : goal.returns
returns c = counts_are_exact

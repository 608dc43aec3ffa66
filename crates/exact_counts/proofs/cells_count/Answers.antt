use Rattle.exact_counts.proofs.Counters.{cells_count}
use Rattle.exact_counts.proofs.cells_count.Goals as goal

pub returns : goal.returns
returns c = cells_count

use Rattle.exact_counts.proofs.Totals.{executions_add_up}
use Rattle.exact_counts.proofs.executions_add_up.Goals as goal

pub returns : goal.returns
returns c = executions_add_up

use Rattle.exact_counts.proofs.Gone.{executions_are_few}
use Rattle.exact_counts.proofs.executions_are_few.Goals as goal

pub returns : goal.returns
returns c = executions_are_few

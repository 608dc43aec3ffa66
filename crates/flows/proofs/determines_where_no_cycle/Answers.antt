use Rattle.flows.proofs.Cycles.{determines_where_no_cycle}
use Rattle.flows.proofs.determines_where_no_cycle.Goals as goal

pub returns : goal.returns
returns c = determines_where_no_cycle

use Rattle.instr_counts.proofs.Counted.{visits_are_counted}
use Rattle.instr_counts.proofs.visits_are_counted.Goals as goal

pub returns : goal.returns
returns c = visits_are_counted

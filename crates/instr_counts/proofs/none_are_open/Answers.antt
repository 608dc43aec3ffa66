use Rattle.instr_counts.proofs.Single.{none_are_open}
use Rattle.instr_counts.proofs.none_are_open.Goals as goal

pub returns : goal.returns
returns c = none_are_open

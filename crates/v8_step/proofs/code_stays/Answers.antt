use Rattle.v8_step.proofs.Executable.{code_stays}
use Rattle.v8_step.proofs.code_stays.Goals as goal

pub returns : goal.returns
returns c = code_stays

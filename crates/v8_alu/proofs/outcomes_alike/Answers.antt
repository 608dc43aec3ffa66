use Rattle.v8_alu.proofs.Alike.{alu_of-alike}
use Rattle.v8_alu.proofs.outcomes_alike.Goals as goal

pub returns : goal.returns
returns c = alu_of-alike

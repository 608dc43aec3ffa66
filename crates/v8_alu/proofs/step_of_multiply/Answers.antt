use Rattle.std.proofs.Common.{rules}
use Rattle.v8_alu.proofs.step_of_multiply.Goals as goal

pub returns : goal.returns
returns c = search rules

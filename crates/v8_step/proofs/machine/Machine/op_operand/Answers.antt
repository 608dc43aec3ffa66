use Rattle.std.proofs.Common.{rules}
use Rattle.v8_step.proofs.Ops.{operand_sum}
use Rattle.v8_step.proofs.machine.Machine.op_operand.Goals as goal

pub returns : goal.returns
returns c = search (rules, operand_sum)

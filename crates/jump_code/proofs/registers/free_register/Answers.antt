use Rattle.jump_code.proofs.Common.{rules}
use Rattle.jump_code.proofs.registers.free_register.Goals as goal

pub returns-clause-value : goal.returns-clause-value
returns-clause-value c = search rules

use Rattle.jump_code.proofs.Common.{rules}
use Rattle.jump_code.proofs.switches.jump_by_case_code.Goals as goal

pub returns : goal.returns
returns c = search rules

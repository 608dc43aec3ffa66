use Rattle.jump_code.proofs.Common.{rules}
use Rattle.jump_code.proofs.code.jump_translated_code.Goals as goal

pub returns : goal.returns
returns c = search rules

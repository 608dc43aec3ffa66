use Rattle.jump_code.proofs.Choosing.{choices_simulate}
use Rattle.jump_code.proofs.choices_simulate.Goals as goal

pub returns : goal.returns
returns c = choices_simulate

use Rattle.jump_code.proofs.Leaving.{far_goes}
use Rattle.jump_code.proofs.far_goes.Goals as goal

pub returns : goal.returns
returns c = far_goes

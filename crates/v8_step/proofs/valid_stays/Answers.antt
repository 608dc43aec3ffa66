use Rattle.v8_step.proofs.ValidSteps.{valid_stays}
use Rattle.v8_step.proofs.valid_stays.Goals as goal

pub returns : goal.returns
returns c = valid_stays

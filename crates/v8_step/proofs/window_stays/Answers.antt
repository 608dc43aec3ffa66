use Rattle.v8_step.proofs.WindowStays.{window_stays}
use Rattle.v8_step.proofs.window_stays.Goals as goal

pub returns : goal.returns
returns c = window_stays

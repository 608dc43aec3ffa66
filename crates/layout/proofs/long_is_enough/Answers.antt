use Rattle.layout.proofs.Needed.{long_is_enough}
use Rattle.layout.proofs.long_is_enough.Goals as goal

pub returns : goal.returns
returns c = long_is_enough

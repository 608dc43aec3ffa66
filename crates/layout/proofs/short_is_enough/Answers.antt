use Rattle.layout.proofs.Needed.{short_is_enough}
use Rattle.layout.proofs.short_is_enough.Goals as goal

pub returns : goal.returns
returns c = short_is_enough

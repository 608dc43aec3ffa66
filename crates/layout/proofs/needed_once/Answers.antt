use Rattle.layout.proofs.Needed.{needed_once}
use Rattle.layout.proofs.needed_once.Goals as goal

pub returns : goal.returns
returns c = needed_once

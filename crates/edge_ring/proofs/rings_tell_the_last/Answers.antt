use Rattle.edge_ring.proofs.Told.{rings_tell}
use Rattle.edge_ring.proofs.rings_tell_the_last.Goals as goal

pub returns : goal.returns
returns c = rings_tell

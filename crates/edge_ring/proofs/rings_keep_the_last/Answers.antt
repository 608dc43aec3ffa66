use Rattle.edge_ring.proofs.Ring.{all_rings_keep}
use Rattle.edge_ring.proofs.rings_keep_the_last.Goals as goal

pub returns : goal.returns
returns c = all_rings_keep

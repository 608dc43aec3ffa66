use Rattle.edge_ring.proofs.Stores.{stores_are_rings}
use Rattle.edge_ring.proofs.stores_are_rings.Goals as goal

pub returns : goal.returns
returns c = stores_are_rings

use Rattle.layout.proofs.Going.{jumps_hop}
use Rattle.layout.proofs.jumps_hop.Goals as goal

pub returns : goal.returns
returns c = jumps_hop

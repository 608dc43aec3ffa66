use Rattle.layout.proofs.Going.{branches_hop}
use Rattle.layout.proofs.branches_hop.Goals as goal

pub returns : goal.returns
returns c = branches_hop

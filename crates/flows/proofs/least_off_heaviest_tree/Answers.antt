use Rattle.flows.proofs.Least.{off_tree_least}
use Rattle.flows.proofs.least_off_heaviest_tree.Goals as goal

pub returns : goal.returns
returns c = off_tree_least

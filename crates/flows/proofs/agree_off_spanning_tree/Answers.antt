use Rattle.flows.proofs.Spanning.{off_tree_determines}
use Rattle.flows.proofs.agree_off_spanning_tree.Goals as goal

pub returns : goal.returns
returns c = off_tree_determines

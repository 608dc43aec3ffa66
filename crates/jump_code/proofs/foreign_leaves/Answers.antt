use Rattle.jump_code.proofs.Leaving.{foreign_leaves}
use Rattle.jump_code.proofs.foreign_leaves.Goals as goal

pub returns : goal.returns
returns c = foreign_leaves

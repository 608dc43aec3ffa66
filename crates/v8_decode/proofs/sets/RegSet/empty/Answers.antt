use Rattle.v8_decode.proofs.Common.{refl, every_part, members}
use Rattle.v8_decode.proofs.sets.RegSet.empty.Goals as goal

pub returns : goal.returns
unfolding every_part members
returns c = refl

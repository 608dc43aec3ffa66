use Rattle.v8_decode.proofs.Common.{arith, mask_of-parts_of}
use Rattle.v8_decode.proofs.sets.RegSetPartialEq.eq.Goals as goal

pub returns : goal.returns
returns c = grind (arith, mask_of-parts_of)

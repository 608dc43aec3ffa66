use Rattle.jump_code.proofs.Choosing.{choices_hop}
use Rattle.jump_code.proofs.choices_hop.Goals as goal

pub returns : goal.returns
returns c = choices_hop

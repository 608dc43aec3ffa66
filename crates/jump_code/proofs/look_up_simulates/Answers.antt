use Rattle.jump_code.proofs.FindFollowing.{look_up_simulates}
use Rattle.jump_code.proofs.look_up_simulates.Goals as goal

pub returns : goal.returns
returns c = look_up_simulates

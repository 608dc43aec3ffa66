use Rattle.jump_code.proofs.FindFollowing.{resume_hops}
use Rattle.jump_code.proofs.resume_hops.Goals as goal

pub returns : goal.returns
returns c = resume_hops

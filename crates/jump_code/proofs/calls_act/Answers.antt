use Rattle.jump_code.proofs.Linking.{calls_act}
use Rattle.jump_code.proofs.calls_act.Goals as goal

pub returns : goal.returns
returns c = calls_act

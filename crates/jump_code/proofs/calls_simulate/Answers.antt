use Rattle.jump_code.proofs.Linking.{calls_simulate}
use Rattle.jump_code.proofs.calls_simulate.Goals as goal

pub returns : goal.returns
returns c = calls_simulate

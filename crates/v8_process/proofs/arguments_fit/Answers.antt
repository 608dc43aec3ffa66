use Rattle.v8_process.proofs.Arguments.{arguments_fit}
use Rattle.v8_process.proofs.arguments_fit.Goals as goal

pub returns : goal.returns
returns c = arguments_fit

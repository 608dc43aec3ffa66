use Rattle.v8_process.proofs.Alike.{starts_alike}
use Rattle.v8_process.proofs.starts_alike.Goals as goal

pub returns : goal.returns
returns c = starts_alike

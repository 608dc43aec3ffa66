use Rattle.v8_process.proofs.Valid.{starts_valid}
use Rattle.v8_process.proofs.starts_valid.Goals as goal

pub returns : goal.returns
returns c = starts_valid

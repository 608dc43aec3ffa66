use Rattle.v8_process.proofs.Fetched.{code_is_fetched}
use Rattle.v8_process.proofs.code_is_fetched.Goals as goal

pub returns : goal.returns
returns c = code_is_fetched

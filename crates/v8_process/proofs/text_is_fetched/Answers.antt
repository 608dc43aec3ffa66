use Rattle.v8_process.proofs.Fetched.{text_is_fetched}
use Rattle.v8_process.proofs.text_is_fetched.Goals as goal

pub returns : goal.returns
returns c = text_is_fetched

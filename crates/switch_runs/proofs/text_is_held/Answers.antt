use Rattle.switch_runs.proofs.Starts.{text_is_held}
use Rattle.switch_runs.proofs.text_is_held.Goals as goal

pub returns : goal.returns
returns c = text_is_held

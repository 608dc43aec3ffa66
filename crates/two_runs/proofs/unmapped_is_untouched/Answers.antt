use Rattle.two_runs.proofs.Unmapped.{unmapped_is_untouched}
use Rattle.two_runs.proofs.unmapped_is_untouched.Goals as goal

pub returns : goal.returns
returns c = unmapped_is_untouched

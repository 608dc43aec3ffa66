use Rattle.two_runs.proofs.Unmapped.{granted_is_untouched}
use Rattle.two_runs.proofs.granted_is_untouched.Goals as goal

pub returns : goal.returns
returns c = granted_is_untouched

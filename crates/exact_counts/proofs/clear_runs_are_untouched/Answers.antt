use Rattle.exact_counts.proofs.Clear.{clear_runs_are_untouched}
use Rattle.exact_counts.proofs.clear_runs_are_untouched.Goals as goal

pub returns : goal.returns
returns c = clear_runs_are_untouched

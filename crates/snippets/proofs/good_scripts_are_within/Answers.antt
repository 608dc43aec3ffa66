use Rattle.snippets.proofs.Within.{good_within}
use Rattle.snippets.proofs.good_scripts_are_within.Goals as goal

pub returns : goal.returns
returns c = good_within

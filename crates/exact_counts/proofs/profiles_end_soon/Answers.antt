use Rattle.exact_counts.proofs.Soon.{profiles_end_soon}
use Rattle.exact_counts.proofs.profiles_end_soon.Goals as goal

pub returns : goal.returns
returns c = profiles_end_soon

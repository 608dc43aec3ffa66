use Rattle.exact_counts.proofs.Little.{profiles_need_little}
use Rattle.exact_counts.proofs.profiles_need_little.Goals as goal

pub returns : goal.returns
returns c = profiles_need_little

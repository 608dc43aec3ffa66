use Rattle.exact_counts.proofs.Trees.{trees_make_profiles}
use Rattle.exact_counts.proofs.trees_make_profiles.Goals as goal

pub returns : goal.returns
returns c = trees_make_profiles

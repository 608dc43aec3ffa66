use Rattle.walk_counts.proofs.Files.{walks_of_files_match}
use Rattle.walk_counts.proofs.walks_of_files_match.Goals as goal

pub returns : goal.returns
returns c = walks_of_files_match

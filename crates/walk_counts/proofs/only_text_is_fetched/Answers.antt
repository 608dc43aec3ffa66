use Rattle.walk_counts.proofs.Fetching.{only_text_is_fetched}
use Rattle.walk_counts.proofs.only_text_is_fetched.Goals as goal

pub returns : goal.returns
returns c = only_text_is_fetched

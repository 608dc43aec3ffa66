use Rattle.snippet_code.proofs.Whole.{snippets_run}
use Rattle.snippet_code.proofs.snippets_run.Goals as goal

pub returns : goal.returns
returns c = snippets_run

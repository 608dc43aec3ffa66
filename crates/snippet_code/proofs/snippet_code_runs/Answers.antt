use Rattle.snippet_code.proofs.WholeCode.{snippet_code_runs}
use Rattle.snippet_code.proofs.snippet_code_runs.Goals as goal

pub returns : goal.returns
returns c = snippet_code_runs

use Rattle.snippet_code.proofs.Lengths.{costs_hold}
use Rattle.snippet_code.proofs.costs_hold.Goals as goal

pub returns : goal.returns
returns c = costs_hold

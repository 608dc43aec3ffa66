use Rattle.flows.proofs.Spanning.{grown_spans}
use Rattle.flows.proofs.grown_trees_span.Goals as goal

pub returns : goal.returns
returns c = grown_spans

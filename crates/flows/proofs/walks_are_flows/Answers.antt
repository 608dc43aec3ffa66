use Rattle.flows.proofs.Walks.{walk_is_flow}
use Rattle.flows.proofs.walks_are_flows.Goals as goal

pub returns : goal.returns
returns c = λ g a es b. walk_is_flow g a b es

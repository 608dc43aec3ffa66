use Rattle.cfg_normal.proofs.LandingFacts.{jump_found}
use Rattle.cfg_normal.proofs.flow.FlowGraph.jump_of.Goals as goal

pub returns-clause-found : goal.returns-clause-found
returns-clause-found c =
    rw (← c.self.view_is) (jump_found c.self.inside.nodes.opens c.args.b.0 _ c.jump_of.ensures.number)

use Rattle.cfg_normal.proofs.Common.{ap, get_or, ◌∙◌, NodeList}
use Rattle.cfg_normal.proofs.LandingFacts.{targets_known}
use Rattle.cfg_normal.proofs.nodes.Nodes.jump_targets.Goals as goal

pub returns-in-Some : goal.returns-in-Some
returns-in-Some c =
    let found = c.index.result.now in
    rw c.targets.ensures
    (targets_known c.args.self.now.blocks c.args.self.now.opens c.jump_of.ensures.opens c.args.block.0 c.in-Some.number
    c.in-Some.ensures.jump found
    (c.index.ensures ∙ ap (λ (n : NodeList). get_or n.opens c.in-Some.number found) c.self.view_is))

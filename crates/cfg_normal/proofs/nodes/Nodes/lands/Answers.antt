use Rattle.std.proofs.Common.{rules, sym, ◌∙◌}
use Rattle.cfg_normal.proofs.LandingFacts.{lands_as}
use Rattle.cfg_normal.proofs.nodes.Nodes.lands.Goals as goal

pub returns-then-lands_there-clause-node : goal.returns-then-lands_there-clause-node
returns-then-lands_there-clause-node c =
    let there = sym (lands_as c.args.self.now.opens c.holding_near-block.result.0 c.args.w.0 _ c.landing.ensures.landing)
    ∙ sym c.lands_there.ensures ∙ c.if-lands_there.true in
    search (there, rules)

pub returns-else-lands_there-clause-node : goal.returns-else-lands_there-clause-node
returns-else-lands_there-clause-node c =
    let there = sym (lands_as c.args.self.now.opens c.holding_near-block.result.0 c.args.w.0 _ c.landing.ensures.landing)
    ∙ sym c.lands_there.ensures ∙ c.if-lands_there.false in
    search (there, rules)

use Rattle.std.proofs.Common.{true, false, sym, ◌∙◌}
use Rattle.cfg_normal.proofs.LandingFacts.{directed_at}
use Rattle.cfg_normal.proofs.nodes.Nodes.directed.Goals as goal

pub returns-then-is_from : goal.returns-then-is_from
returns-then-is_from c =
    directed_at c.args.self.now.opens c.jump_of.ensures.opens.one c.args.from c.args.kind c.args.to c.in-Some.number
    c.in-Some.ensures.jump true (λ d. sym c.if-is_from.true ∙ c.is_from.ensures d)

pub returns-else-is_from : goal.returns-else-is_from
returns-else-is_from c =
    directed_at c.args.self.now.opens c.jump_of.ensures.opens.one c.args.from c.args.kind c.args.to c.in-Some.number
    c.in-Some.ensures.jump false (λ d. sym c.if-is_from.false ∙ c.is_from.ensures d)

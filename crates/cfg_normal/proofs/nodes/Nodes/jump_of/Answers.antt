use Rattle.cfg_normal.proofs.LandingFacts.{jumps_at, no_number, number_at}
use Rattle.cfg_normal.proofs.nodes.Nodes.jump_of.Goals as goal

pub returns-in-Copied-clause-number : goal.returns-in-Copied-clause-number
returns-in-Copied-clause-number c =
    let is = c.in-Copied.ensures.landing in
    number_at c.args.self.now.opens c.landing.ensures.opens.one c.args.block.0 c.in-Copied.number is.0 is.1

pub returns-in-Copied-clause-jump : goal.returns-in-Copied-clause-jump
returns-in-Copied-clause-jump c =
    let is = c.in-Copied.ensures.landing in
    (is.0, jumps_at c.args.self.now.opens c.args.block.0 c.in-Copied.number is.0 is.1, is.1)

pub returns-in_default-clause-number : goal.returns-in_default-clause-number
returns-in_default-clause-number c = no_number c.args.self.now.opens c.args.block.0 _ c.landing.ensures.landing c.in_default.not-Copied

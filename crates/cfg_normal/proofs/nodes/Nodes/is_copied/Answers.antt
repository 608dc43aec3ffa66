use Rattle.std.proofs.Common.{◌∙◌}
use Rattle.cfg_normal.proofs.LandingFacts.{copied_as}
use Rattle.cfg_normal.proofs.nodes.Nodes.is_copied.Goals as goal

pub returns : goal.returns
returns c = c.has_copy.ensures ∙ copied_as c.args.self.now.opens c.args.block.0 _ c.landing.ensures.landing

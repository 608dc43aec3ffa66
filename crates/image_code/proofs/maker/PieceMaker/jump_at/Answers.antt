use Rattle.image_code.proofs.Common.{◌==◌, sym, ◌∙◌, Open}
use Rattle.cfg_normal.proofs.LandingFacts.{some_is_any}
use Rattle.image_code.proofs.maker.PieceMaker.jump_at.Goals as goal

pub returns-in-Some : goal.returns-in-Some
returns-in-Some c =
    let jumps = some_is_any (λ (o : Open). o.block == c.args.block.0) c.args.self.now.graph.now.opens in
    rw (← jumps, sym c.jump_of.ensures.number ∙ c.in-Some.is) c.switch_jump.ensures

pub returns-in-None : goal.returns-in-None
returns-in-None c =
    let jumps = some_is_any (λ (o : Open). o.block == c.args.block.0) c.args.self.now.graph.now.opens in
    rw (← jumps, sym c.jump_of.ensures.number ∙ c.in-None.is) c.jump_out.ensures

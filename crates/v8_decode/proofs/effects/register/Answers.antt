use Rattle.v8_decode.proofs.Common.{◌∷◌, ap, ◌∙◌, Reg, set_of}
use Rattle.v8_decode.proofs.Marks.{set_of-reg}
use Rattle.v8_decode.proofs.effects.register.Goals as goal

pub returns : goal.returns
returns c = c.with.ensures.value ∙ ap (λ s. set_of (Reg c.args.r ∷ s)) c.empty.ensures ∙ set_of-reg c.args.r

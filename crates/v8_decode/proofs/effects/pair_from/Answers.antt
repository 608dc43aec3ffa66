use Rattle.v8_decode.proofs.Common.{ap, ◌∙◌, reg, set_of}
use Rattle.v8_decode.proofs.Marks.{joined}
use Rattle.v8_decode.proofs.effects.pair_from.Goals as goal

pub returns : goal.returns
returns c = joined _ _ _ _ _ c.union.ensures.value c.register.ensures (c.register-2.ensures ∙ ap (λ r. set_of (reg r)) c.next.ensures)

use Rattle.v8_decode.proofs.Common.{◌∷◌, ap, sym, ◌∙◌, Icc, Y, alu_inputs, every_part, members, set_of}
use Rattle.v8_decode.proofs.effects.inputs.Goals as goal

pub returns-in-MULScc : goal.returns-in-MULScc
unfolding every_part members
returns-in-MULScc c =
    c.with-in-MULScc-2.ensures.value
    ∙ ap (λ s. set_of (Icc ∷ s)) (c.with-in-MULScc.ensures.value ∙ ap (λ s. set_of (Y ∷ s)) c.empty-in-MULScc.ensures)
    ∙ sym (ap (λ op. set_of (alu_inputs op)) c.in-MULScc.is)

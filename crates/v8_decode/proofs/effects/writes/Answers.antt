use Rattle.v8_decode.proofs.Common.{[], ◌∷◌, ap, sym, ◌∙◌, Y, when, write_set, set_of}
use Rattle.v8_decode.proofs.Marks.{joined}
use Rattle.v8_decode.proofs.effects.writes.Goals as goal

pub returns-in-Alu : goal.returns-in-Alu
returns-in-Alu c =
    joined _ _ _ _ _ c.union-in-Alu.ensures.value
    (joined _ _ _ _ _ c.union.ensures.value c.register-in-Alu.ensures c.part_if.ensures)
    (c.part_if-in-Alu.ensures ∙ ap (λ test. set_of (when test (Y ∷ []))) c.takes_y.ensures)
    ∙ sym (ap write_set c.in-Alu.is)

use Rattle.v8_decode.proofs.Common.{◌-◌, ◌^◌, ◌*◌, ◌%◌, bit_and, ap, ◌∙◌, without, parts_of}
use Rattle.v8_decode.proofs.Marks.{and_below, has-without, parts_of-clear}
use Rattle.v8_decode.proofs.sets.RegSet.without.Goals as goal

pub invariant_of-result : goal.invariant_of-result
invariant_of-result c = and_below c.self.inside.mask _ c.self.invariant.0 c.self.invariant.1

pub returns-clause-value : goal.returns-clause-value
returns-clause-value c =
    ap (λ k. parts_of (bit_and c.self.inside.mask (2 ^ 64 - 1 - 1 * 2 ^ k % 2 ^ 64))) c.place.ensures.value
    ∙ parts_of-clear c.self.inside.mask c.args.p c.place.ensures.part
    ∙ ap (λ s. without s c.args.p) c.self.view_is

pub returns-clause-has : goal.returns-clause-has
returns-clause-has c = λ q. has-without c.args.self _ c.args.p q (returns-clause-value c)

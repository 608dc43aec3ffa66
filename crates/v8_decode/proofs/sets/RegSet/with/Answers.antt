use Rattle.v8_decode.proofs.Common.{◌^◌, ◌*◌, ◌%◌, ◌∷◌, bit_or, ap, ◌∙◌, sym, arith, set_of, parts_of}
use Rattle.v8_decode.proofs.Marks.{bit_below, has-with, or_below, parts_of-none, parts_of-set}
use Rattle.v8_decode.proofs.sets.RegSet.with.Goals as goal

pub invariant_of-result : goal.invariant_of-result
invariant_of-result c =
    let bit = bit_below c.place-place.result (omega arith) c.place-place.ensures.range in
    or_below c.self.inside.mask _ c.self.invariant.0 bit.0 c.self.invariant.1 bit.1

pub returns-then-place-eq0-clause-value : goal.returns-then-place-eq0-clause-value
returns-then-place-eq0-clause-value c =
    parts_of-none c.self.inside.mask c.args.p c.place-place.ensures.part (sym c.place-place.ensures.value ∙ c.if-place-eq0.true)
    ∙ ap (λ s. set_of (c.args.p ∷ s)) c.self.view_is

pub returns-else-place-eq0-clause-value : goal.returns-else-place-eq0-clause-value
returns-else-place-eq0-clause-value c =
    ap (λ k. parts_of (bit_or c.self.inside.mask (1 * 2 ^ k % 2 ^ 64))) c.place-place.ensures.value
    ∙ parts_of-set c.self.inside.mask c.args.p c.place-place.ensures.part
    ∙ ap (λ s. set_of (c.args.p ∷ s)) c.self.view_is

pub returns-then-place-eq0-clause-has : goal.returns-then-place-eq0-clause-has
returns-then-place-eq0-clause-has c = λ q. has-with c.args.self _ c.args.p q (returns-then-place-eq0-clause-value c)

pub returns-else-place-eq0-clause-has : goal.returns-else-place-eq0-clause-has
returns-else-place-eq0-clause-has c = λ q. has-with c.args.self _ c.args.p q (returns-else-place-eq0-clause-value c)

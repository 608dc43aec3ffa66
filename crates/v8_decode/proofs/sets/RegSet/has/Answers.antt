use Rattle.v8_decode.proofs.Common.{◌/◌, ◌^◌, bit_and, nat_eq, ap, sym, ◌∙◌, has}
use Rattle.v8_decode.proofs.Marks.{has-parts_of, view_set}
use Rattle.v8_decode.proofs.sets.RegSet.has.Goals as goal

pub returns-clause-value : goal.returns-clause-value
returns-clause-value c =
    ap (λ k. nat_eq (bit_and (c.self.inside.mask / 2 ^ k) 1) 1) c.place.ensures.value
    ∙ sym (has-parts_of c.self.inside.mask c.args.p c.self.invariant.1 c.place.ensures.part)
    ∙ ap (λ s. has s c.args.p) c.self.view_is

pub returns-clause-set : goal.returns-clause-set
returns-clause-set c = view_set c.self.inside.mask c.args.self c.self.view_is

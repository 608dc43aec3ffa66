use Rattle.v8_decode.proofs.Common.{◌++◌, ap, ◌∙◌, set_of, parts_of}
use Rattle.v8_decode.proofs.Marks.{has-union, or_below, parts_of-or, view_set}
use Rattle.v8_decode.proofs.sets.RegSet.union.Goals as goal

pub invariant_of-result : goal.invariant_of-result
invariant_of-result c =
    or_below c.self.inside.mask c.other.inside.mask c.self.invariant.0 c.other.invariant.0 c.self.invariant.1 c.other.invariant.1

pub returns-clause-value : goal.returns-clause-value
returns-clause-value c =
    parts_of-or c.self.inside.mask c.other.inside.mask
    ∙ ap (λ s. set_of (s ++ parts_of c.other.inside.mask)) c.self.view_is
    ∙ ap (λ s. set_of (c.args.self ++ s)) c.other.view_is

pub returns-clause-has : goal.returns-clause-has
returns-clause-has c =
    λ q. has-union c.args.self c.args.other _ q
    (view_set c.self.inside.mask c.args.self c.self.view_is)
    (view_set c.other.inside.mask c.args.other c.other.view_is)
    (returns-clause-value c)

use Rattle.v8_decode.proofs.Minus.{has-minus, parts_of-minus}
use Rattle.v8_decode.proofs.Marks.{and_below, view_set}
use Rattle.v8_decode.proofs.sets.RegSet.minus.Goals as goal

pub invariant_of-result : goal.invariant_of-result
invariant_of-result c = and_below c.self.inside.mask _ c.self.invariant.0 c.self.invariant.1

pub returns-clause-value : goal.returns-clause-value
returns-clause-value c = parts_of-minus c.self.inside.mask c.other.inside.mask _ _ c.self.view_is c.other.view_is

pub returns-clause-has : goal.returns-clause-has
returns-clause-has c =
    λ q. has-minus c.args.self c.args.other _ q (view_set c.self.inside.mask c.args.self c.self.view_is) (returns-clause-value c)

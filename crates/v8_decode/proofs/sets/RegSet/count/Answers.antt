use Rattle.v8_decode.proofs.Common.{ap, sym, ◌∙◌, length}
use Rattle.v8_decode.proofs.Marks.{length-parts_of, ones_le, view_set}
use Rattle.v8_decode.proofs.sets.RegSet.count.Goals as goal

pub returns-clause-members : goal.returns-clause-members
returns-clause-members c =
    sym (length-parts_of c.self.inside.mask c.self.invariant.0 c.self.invariant.1) ∙ ap length c.self.view_is

pub returns-clause-range : goal.returns-clause-range
returns-clause-range c = ones_le c.self.inside.mask c.self.invariant.0 c.self.invariant.1

pub returns-clause-set : goal.returns-clause-set
returns-clause-set c = view_set c.self.inside.mask c.args.self c.self.view_is

use Rattle.layout.proofs.Laying.{lowest_is, marking_higher}
use Rattle.layout.proofs.order.lowest_left.Goals as goal

pub returns-clause-lowest : goal.returns-clause-lowest
returns-clause-lowest c =
    lowest_is _ _ _ _ _ c.requires.marking c.requires.more c.first_free.ensures.within c.first_free.ensures.above
    c.first_free.ensures.passed c.first_free.ensures.free

pub returns-clause-marking : goal.returns-clause-marking
returns-clause-marking c =
    marking_higher _ _ _ _ _ c.requires.marking (lowest_is _ _ _ _ _ c.requires.marking c.requires.more
    c.first_free.ensures.within c.first_free.ensures.above c.first_free.ensures.passed c.first_free.ensures.free)

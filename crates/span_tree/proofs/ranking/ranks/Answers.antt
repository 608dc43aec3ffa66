use Rattle.span_tree.proofs.Common.{add-one, map-append}
use Rattle.span_tree.proofs.ranking.ranks.Goals as goal

pub loop-number-preserved : goal.loop-number-preserved
loop-number-preserved c =
    rw (c.in_ok-push.ensures.items, c.loop-number.invariant, c.rank.ensures, add-one) (simp (map-append))

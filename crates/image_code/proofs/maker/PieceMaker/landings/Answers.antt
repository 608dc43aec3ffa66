use Rattle.image_code.proofs.Common.{map-append}
use Rattle.image_code.proofs.Pushed.{below_next}
use Rattle.image_code.proofs.maker.PieceMaker.landings.Goals as goal

pub loop-word-preserved : goal.loop-word-preserved
loop-word-preserved c =
    simp (c.in_ok-push.ensures.items, map-append, c.in_ok-lands_at.ensures, c.loop-word.invariant, below_next)

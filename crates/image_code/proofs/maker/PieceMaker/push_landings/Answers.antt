use Rattle.image_code.proofs.Common.{append_assoc, map-append, Landing}
use Rattle.image_code.proofs.Pushed.{below_next}
use Rattle.image_code.proofs.maker.PieceMaker.push_landings.Goals as goal

pub loop-word-preserved : goal.loop-word-preserved
loop-word-preserved c =
    rw (c.in_ok-push_piece.ensures, c.loop-word.invariant, c.in_ok-landing.ensures, below_next Landing)
    (simp (map-append, append_assoc))

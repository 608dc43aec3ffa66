use Rattle.image_code.proofs.Common.{append_assoc, arith, map-append, Image}
use Rattle.image_code.proofs.Pushed.{range_next}
use Rattle.image_code.proofs.maker.PieceMaker.push_images_at.Goals as goal

pub loop-word-preserved : goal.loop-word-preserved
loop-word-preserved c =
    let next = range_next (Image c.args.node) c.args.from c.loop-word.word (omega arith) in
    let shape = rw c.args.self.now.behind at c.in_ok-image.ensures in
    rw (c.in_ok-push_piece.ensures, c.loop-word.invariant, shape, next) (simp (map-append, append_assoc))

use Rattle.image_code.proofs.Common.{append_assoc, map-append, Image, node_in_order}
use Rattle.image_code.proofs.Pushed.{below_next}
use Rattle.image_code.proofs.maker.PieceMaker.push_images.Goals as goal

pub loop-word-preserved : goal.loop-word-preserved
loop-word-preserved c =
    let next = below_next (λ word. Image (node_in_order c.args.self.now.graph.now word) word) c.loop-word.word in
    let shape = rw (c.args.self.now.behind, c.node_of-node.ensures.node) at c.in_ok-image.ensures in
    rw (c.in_ok-push_piece.ensures, c.loop-word.invariant, shape, next) (simp (map-append, append_assoc))

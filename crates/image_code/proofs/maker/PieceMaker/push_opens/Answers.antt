use Rattle.image_code.proofs.Common.{append_assoc, map-append, switch_labels}
use Rattle.image_code.proofs.Pushed.{flat_next}
use Rattle.image_code.proofs.maker.PieceMaker.push_opens.Goals as goal

pub loop-number-preserved : goal.loop-number-preserved
loop-number-preserved c =
    let labels = switch_labels c.args.self.now.text.now c.args.self.now.graph.now in
    let next = flat_next labels _ _ _ c.loop-number-test.true c.found-item.is in
    rw (c.in_ok-push_open.ensures, c.loop-number.invariant, next) (simp (map-append, append_assoc))

use Rattle.image_code.proofs.Common.{arith, switch_at}
use Rattle.image_code.proofs.Sources.{piece_number}
use Rattle.image_code.proofs.OpenNumbers.{behind_small, enters_block, enters_copy}
use Rattle.image_code.proofs.maker.PieceMaker.enter.Goals as goal

pub overflow_add-image_after : goal.overflow_add-image_after
overflow_add-image_after c =
    let text = c.args.self.now.text.now in
    let small = behind_small text (switch_at text c.args.self.now.graph.now c.in-Block.block.0) c.args.word.0 in
    omega (arith, c.image_after.ensures.few, c.saved_before.ensures)

pub returns-in-Block : goal.returns-in-Block
returns-in-Block c =
    piece_number c.args.self.now.found _ c.piece.ensures (λ g l.
    let enters = enters_block _ _ g _ l.images c.args.node _ c.args.word.0 c.in-Block.is c.requires in
    omega (arith, enters, c.image_after.ensures.number, c.saved_before.ensures))

pub returns-in-Landed : goal.returns-in-Landed
returns-in-Landed c =
    piece_number c.args.self.now.found _ c.piece-in-Landed.ensures (λ g l.
    let enters = enters_copy _ _ g _ l.images c.args.node _ c.args.word.0 c.in-Landed.is c.requires in
    omega (arith, enters, c.image_after-in-Landed.ensures.number))

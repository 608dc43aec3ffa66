use Rattle.image_code.proofs.Common.{◌<◌, arith, lt-ltb, le_prop}
use Rattle.image_code.proofs.Sources.{known, known_number}
use Rattle.image_code.proofs.maker.PieceMaker.pieces.Goals as goal

pub holding-requires : goal.holding-requires
holding-requires c = known c.args.self.now.found le_prop (λ g _. omega (arith, c.requires.entry, g.cut.words))

pub returns-clause-entry : goal.returns-clause-entry
returns-clause-entry c =
    known_number c.args.self.now.found (λ g _.
    let low : c.args.entry.0 < c.args.self.now.graph.now.blocks.words = omega (arith, c.requires.entry, g.cut.words) in
    rw (lt-ltb _ _ low, ← c.holding.ensures.block) c.in_ok-enter.ensures)

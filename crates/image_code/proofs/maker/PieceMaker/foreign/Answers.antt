use Rattle.image_code.proofs.Common.{arith}
use Rattle.image_code.proofs.Sources.{piece_number}
use Rattle.image_code.proofs.OpenNumbers.{foreign_number_is}
use Rattle.image_code.proofs.maker.PieceMaker.foreign.Goals as goal

pub returns : goal.returns
returns c =
    let entries = rw c.opens.ensures at c.entry-entries.ensures in
    piece_number c.args.self.now.found _ c.piece.ensures (λ g _.
    omega (arith, c.from.ensures, c.from-2.ensures, c.behind.ensures, entries, foreign_number_is _ _ g))

use Rattle.image_code.proofs.Common.{ap, arith, option_to_list, sym, ◌∙◌}
use Rattle.image_code.proofs.Sources.{piece_number}
use Rattle.image_code.proofs.OpenNumbers.{way_number}
use Rattle.image_code.proofs.maker.PieceMaker.way_out.Goals as goal

pub returns-in-Some : goal.returns-in-Some
returns-in-Some c =
    let only = sym c.leaving.ensures ∙ ap option_to_list c.in-Some.is in
    rw only (piece_number c.args.self.now.found _ c.piece.ensures (λ g _.
    let number = way_number _ _ g _ _ c.requires.kind _ only in
    omega (arith, number, c.from.ensures, c.from-in-Some.ensures, c.len.ensures.count)))

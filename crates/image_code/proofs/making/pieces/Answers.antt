use Rattle.image_code.proofs.Common.{ap, ◌∙◌, piece_list}
use Rattle.image_code.proofs.making.pieces.Goals as goal

pub returns-clause-list : goal.returns-clause-list
returns-clause-list c =
    c.in_ok-made.ensures.list ∙ ap (piece_list _ _ _ _) (λ i edge. c.in_ok-code.ensures.words edge i)

use Rattle.image_code.proofs.Common.{ℕ, List, [], ap, ◌∙◌, arith, slice_index, le_prop, get_or_default}
use Rattle.image_code.proofs.Sources.{known}
use Rattle.image_code.proofs.maker.PieceMaker.edge_at.Goals as goal

pub returns : goal.returns
returns c =
    rw (← c.node_number.ensures.number, ← c.kind_number.ensures.number) (c.first_at.ensures
    ∙ ap (λ (row : List ℕ). slice_index row c.kind_number.result) (c.index-row.ensures
    ∙ get_or_default _ c.node_number.result _ []
    (known c.args.self.now.found le_prop (λ _ l. omega (arith, c.node_number.ensures.within, l.edges.long)))))

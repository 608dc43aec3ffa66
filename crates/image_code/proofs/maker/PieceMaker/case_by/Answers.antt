use Rattle.image_code.proofs.Common.{ltb-true, ◌≡◌, Some, [], ap, option_to_list, slice_get, sym, ◌∙◌}
use Rattle.image_code.proofs.Sources.{known}
use Rattle.image_code.proofs.OpenNumbers.{case_reaches, reached_prop}
use Rattle.image_code.proofs.Positions.{looked_up}
use Rattle.image_code.proofs.maker.PieceMaker.case_by.Goals as goal

pub way_by-requires-clause-to : goal.way_by-requires-clause-to
way_by-requires-clause-to c =
    known c.args.self.now.found (reached_prop c.args.self.now.graph.now _ _) (λ g _.
    case_reaches _ _ g c.args.block.0 c.args.word.0 c.in-Some.number [] _ c.requires.word
    (rw (← c.lands-to.ensures.node) (sym c.case_edge.ensures ∙ ap option_to_list c.in-Some.is))
    (looked_up _ _ _ _ c.edges.ensures.edges (ltb-true _ _ (sym c.in-Some-get.ensures.lookup.0))
    c.in-Some-get.ensures.lookup.1))

pub returns-in-Some-get : goal.returns-in-Some-get
returns-in-Some-get c =
    let at : slice_get c.args.self.now.graph.now.edges c.in-Some.number ≡ Some c.in-Some-get.edge.now =
    looked_up _ _ _ _ c.edges.ensures.edges (ltb-true _ _ (sym c.in-Some-get.ensures.lookup.0))
    c.in-Some-get.ensures.lookup.1 in
    rw (← c.lands-to.ensures.node, ← c.case_edge.ensures, c.in-Some.is, at) c.way_by.ensures

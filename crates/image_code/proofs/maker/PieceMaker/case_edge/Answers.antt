use Rattle.image_code.proofs.Common.{◌∙◌, Some, None}
use Rattle.image_code.proofs.EdgeTables.{case_edge_is}
use Rattle.image_code.proofs.maker.PieceMaker.case_edge.Goals as goal

pub returns-in-Some : goal.returns-in-Some
returns-in-Some c =
    case_edge_is c.args.self.now.found c.args.block _ c.requires.block c.requires.to (Some c.in-Some.edge.now)
    (λ h. c.in-Some.ensures.value ∙ h.lookups.cases _ ∙ rw c.node_number-number.ensures.number)

pub returns-in-None : goal.returns-in-None
returns-in-None c =
    case_edge_is c.args.self.now.found c.args.block _ c.requires.block c.requires.to None
    (λ h. c.in-None.ensures.value ∙ h.lookups.cases _ ∙ rw c.node_number-number.ensures.number)

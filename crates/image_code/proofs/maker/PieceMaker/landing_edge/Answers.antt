use Rattle.cfg_blocks.specs.declared.EdgeKind.TheVariants as kinds
use Rattle.image_code.proofs.EdgeTables.{edge_is}
use Rattle.image_code.proofs.maker.PieceMaker.landing_edge.Goals as goal

pub returns : goal.returns
returns c = edge_is c.args.self.now.found _ c.requires.node kinds.Land _ c.edge_at.ensures

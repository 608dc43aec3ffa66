use Rattle.image_code.proofs.EdgeTables.{edge_is}
use Rattle.image_code.proofs.maker.PieceMaker.leaving.Goals as goal

pub returns : goal.returns
returns c = rw c.requires.kind at (edge_is c.args.self.now.found _ c.requires.node c.args.kind _ c.edge_at.ensures)

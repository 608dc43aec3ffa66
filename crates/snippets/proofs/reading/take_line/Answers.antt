use Rattle.snippets.proofs.Lines.{said_ring}
use Rattle.snippets.proofs.reading.take_line.Goals as goal

pub add-requires : goal.add-requires
add-requires c = said_ring c.args.line.now c.in-Does.edge c.in-Does.op c.in-Does.ensures

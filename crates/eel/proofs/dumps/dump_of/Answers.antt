use Rattle.eel.proofs.Common.{notes_seen}
use Rattle.eel.proofs.Cells.{few_cells}
use Rattle.eel.proofs.dumps.dump_of.Goals as goal

pub read_cells-requires-clause-few : goal.read_cells-requires-clause-few
read_cells-requires-clause-few c = few_cells (notes_seen c.args.notes.now) c.requires.rules

use Rattle.eel.proofs.Common.{[], notes_seen}
use Rattle.eel.proofs.Cells.{cells_kept}
use Rattle.eel.proofs.demo.last_dump.Goals as goal

pub dump_of-requires-clause-cells : goal.dump_of-requires-clause-cells
dump_of-requires-clause-cells c =
    rw (c.run_to_end-end.ensures.state, c.in_ok-machine.ensures)
    (cells_kept c.args.written.now [] [] (notes_seen c.args.notes.now) c.requires.loads c.requires.noted.mapped
    c.run_to_end-end.result.steps)

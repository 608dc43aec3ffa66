use Rattle.eel.proofs.Common.{inr, refl, notes_seen, stream_seen, refused, ran, input_seen}
use Rattle.eel.proofs.Cells.{cells_kept}
use Rattle.eel.proofs.Dumping.{dumped_later, not_run}
use Rattle.eel.proofs.dumps.run_for_dump.Goals as goal

pub returns-in-Err-clause-dumps : goal.returns-in-Err-clause-dumps
returns-in-Err-clause-dumps g c = not_run _ _ _ _ _ _ _ c.in-Err.ensures.unbegun (refl, refl) c.begin.ensures.kept

pub returns-in-Err-noted-clause-dumps : goal.returns-in-Err-noted-clause-dumps
returns-in-Err-noted-clause-dumps g c =
    let begun = c.in-Ok.ensures.begun in
    refused _ begun.read begun.input begun.fed
    (inr (begun.loads, rw c.deref.ensures.value at c.in-Err-noted.ensures.refused))
    (refl {a = stream_seen g.O.Sink c.args.out.now}, refl {a = g.E.Sink.taken c.args.err.now})
    c.begin.ensures.kept

pub dump_machine-requires-clause-cells : goal.dump_machine-requires-clause-cells
dump_machine-requires-clause-cells g c =
    let begun = c.in-Ok.ensures.begun in
    rw begun.is
    (cells_kept _ _ _ (notes_seen c.in-Ok-noted.notes) begun.loads
    (rw c.deref.ensures.value at c.in-Ok-noted.ensures.noted.mapped))

pub returns-clause-dumps : goal.returns-clause-dumps
returns-clause-dumps g c =
    let begun = c.in-Ok.ensures.begun in
    let dumped = rw begun.is at c.dump_machine.ensures.dumped in
    ran _ begun.read begun.input begun.fed begun.loads (
      notes_seen c.in-Ok-noted.notes,
      rw c.deref.ensures.value at c.in-Ok-noted.ensures.noted,
      dumped_later (notes_seen c.in-Ok-noted.notes) _ _ _ _ _ _ _ _ _ _ _ _ _ _ _ _ c.begin.ensures.kept c.begin.ensures.files_faults _ (dumped (input_seen g.I.Source c.args.input.now)),
    )

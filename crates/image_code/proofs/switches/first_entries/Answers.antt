use Rattle.image_code.proofs.Common.{◌==◌, get_or-map, length-map, map, WordNo}
use Rattle.image_code.proofs.EdgeTables.{positions_more}
use Rattle.image_code.proofs.switches.first_entries.Goals as goal

pub loop-entry-preserved : goal.loop-entry-preserved
loop-entry-preserved c = λ word.
    let d : WordNo = record { 0 = 0 } in
    positions_more (λ t. t == word) (map (λ (w : WordNo). w.0) c.args.targets.now) c.loop-entry.entry 0 _ _
    (rw length-map c.loop-entry-test.true) (c.loop-entry.invariant word)
    (rw (get_or-map (λ (w : WordNo). w.0) c.args.targets.now c.loop-entry.entry d 0 c.loop-entry-test.true)
    (rw c.in_ok-small.ensures.same at (c.in_ok-note_entry.ensures word)))

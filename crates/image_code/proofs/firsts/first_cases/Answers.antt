use Rattle.image_code.proofs.EdgeTables.{positions_more}
use Rattle.image_code.proofs.firsts.first_cases.Goals as goal

pub loop-number-preserved : goal.loop-number-preserved
loop-number-preserved c = λ case.
    positions_more _ _ _ _ _ _ c.loop-number-test.true (c.loop-number.invariant case) (c.in_ok-note_case.ensures case)

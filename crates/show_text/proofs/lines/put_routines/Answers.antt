use Rattle.show_text.proofs.Common.{sym, ap, length, arith, routine_line}
use Rattle.show_text.proofs.Joined.{more_lines}
use Rattle.show_text.proofs.lines.put_routines.Goals as goal

pub loop-routine-preserved : goal.loop-routine-preserved
loop-routine-preserved c =
    let view = c.args.view.now in
    let routines = c.list-routine-items.ensures in
    more_lines (routine_line view.image.text) view.routines c.loop-routine.routine-index
    c.routine-item.result _ _ _ _ (omega (arith, ap length routines)) (rw routines at (sym c.routine-item.is))
    c.loop-routine.invariant c.in_ok-put_routine.ensures

use Rattle.show_text.proofs.Common.{◌≡◌, ◌++◌, take, flat_map, routine_line}
use Rattle.show_text.proofs.lines.put_routines.Given as goal

abbrev pub invariant-loop-routine : goal.invariant-loop-routine
invariant-loop-routine l = l.text.items
    ≡ l.initial.text.items ++ flat_map (routine_line l.view.image.text) (take l.routine-index l.view.routines)

use Rattle.show_text.proofs.Common.{◌≡◌, ◌++◌, take, flat_map, switch_line}
use Rattle.show_text.proofs.lines.put_switches.Given as goal

abbrev pub invariant-loop-switch : goal.invariant-loop-switch
invariant-loop-switch l = l.text.items
    ≡ l.initial.text.items ++ flat_map (switch_line l.view.image.text) (take l.switch-index l.switches)

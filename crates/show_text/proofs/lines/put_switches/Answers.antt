use Rattle.show_text.proofs.Common.{get_or, refl, arith, switch_line}
use Rattle.cfg_blocks.specs.declared.switches.Switch.{Switch}
use Rattle.show_text.proofs.Joined.{more_lines}
use Rattle.show_text.proofs.lines.put_switches.Goals as goal

-- what is read behind the end of a list of switches
abbrev no_switch : Switch
no_switch = record { jump = record { 0 = 0 }; compare = record { 0 = 0 }; table = record { 0 = 0 }; count = 0 }

pub loop-switch-preserved : goal.loop-switch-preserved
loop-switch-preserved c =
    let switches = c.args.switches.now in
    let index = c.loop-switch.switch-index in
    more_lines (switch_line c.args.view.now.image.text) switches index (get_or switches index no_switch) no_switch _ _ _
    (omega arith) refl c.loop-switch.invariant c.in_ok-put_switch.ensures

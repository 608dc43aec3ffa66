use Rattle.std.proofs.Common.{◌≡◌, ◌≤◌}
use Rattle.cfg_blocks.specs.Switches.{last_setting}
use Rattle.cfg_blocks.proofs.compares.last_setting.Given as goal

abbrev pub invariant-loop-left : goal.invariant-loop-left
invariant-loop-left l =
    (l.left ≤ l.count) × (last_setting l.text l.from l.left ≡ last_setting l.text l.from l.count)

abbrev pub decreases-loop-left : goal.decreases-loop-left
decreases-loop-left l = l.left

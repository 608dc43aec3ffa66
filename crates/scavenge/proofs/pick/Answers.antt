use Rattle.std.proofs.Common.{ap, ◌∙◌}
use Rattle.std.specs.Prelude.{◌-◌}
use Rattle.scavenge.proofs.Turns.{are_picked_in}
use Rattle.scavenge.proofs.pick.Goals as goal

pub returns-clause-picked : goal.returns-clause-picked
returns-clause-picked c =
    are_picked_in c.args.dead c.args.avoid c.args.want _ c.regs_of.result c.requires.avoid c.requires.want
    c.regs_of.ensures (c.saturating_sub.ensures ∙ ap (λ n. c.args.want - n) c.count_dead.ensures)

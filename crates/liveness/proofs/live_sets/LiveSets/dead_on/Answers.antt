use Rattle.liveness.proofs.Common.{ap, ◌∙◌, not, has, members, minus}
use Rattle.liveness.proofs.Joining.{everything_less}
use Rattle.liveness.proofs.live_sets.LiveSets.dead_on.Goals as goal

pub returns : goal.returns
returns c =
    c.minus.ensures.value ∙ ap (λ s. minus s c.on_edge.result) c.all.ensures ∙ everything_less c.on_edge.result
    ∙ ap (λ s. members (λ x. not (has s x))) c.on_edge.ensures

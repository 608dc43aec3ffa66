use Rattle.std.proofs.Common.{sym, ◌∙◌}
use Rattle.liveness.proofs.Adding.{adds_alone, adds_too}
use Rattle.liveness.proofs.chart.Chart.link_block.Goals as goal

pub returns-in_ok-link_node-2-clause-added : goal.returns-in_ok-link_node-2-clause-added
returns-in_ok-link_node-2-clause-added c =
    adds_too _ _ _ _ _ _ c.in_ok-link_node.ensures.added c.in_ok-link_node-2.ensures.added
    (sym c.is_copied.ensures ∙ c.if-is_copied.true)

pub returns-else-is_copied-clause-added : goal.returns-else-is_copied-clause-added
returns-else-is_copied-clause-added c =
    adds_alone _ _ _ _ _ c.in_ok-link_node.ensures.added (sym c.is_copied.ensures ∙ c.if-is_copied.false)

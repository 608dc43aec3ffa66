use Rattle.std.proofs.Common.{sym, ◌∙◌}
use Rattle.liveness.proofs.Adding.{adds_if}
use Rattle.liveness.proofs.chart.Chart.link_onto.Goals as goal

pub returns-in_ok-link_words-clause-added : goal.returns-in_ok-link_words-clause-added
returns-in_ok-link_words-clause-added c =
    adds_if _ _ _ _ c.in_ok-link_words.ensures.added (sym c.has_node.ensures ∙ c.if-has_node.true)

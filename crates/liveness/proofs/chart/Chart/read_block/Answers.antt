use Rattle.std.proofs.Common.{sym, ◌∙◌}
use Rattle.liveness.proofs.Adding.{adds_too}
use Rattle.liveness.proofs.chart.Chart.read_block.Goals as goal

pub returns-then-is_copied-clause-read : goal.returns-then-is_copied-clause-read
returns-then-is_copied-clause-read c = λ p.
    adds_too _ _ _ _ _ _ (c.read_node.ensures.read p) (c.read_node-then-is_copied.ensures.read p)
    (sym c.is_copied.ensures ∙ c.if-is_copied.true)

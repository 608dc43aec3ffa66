use Rattle.std.proofs.Common.{arith}
use Rattle.liveness.proofs.Adding.{adds_both, adds_on}
use Rattle.liveness.proofs.chart.Chart.all_links.Goals as goal

pub returns-clause-links : goal.returns-clause-links
returns-clause-links c = record {
  contained =
      adds_both _ _ _ _ _
      (adds_on _ _ _ _ _ (λ l h. let none = h.1 in absurd (omega arith))
      (rw c.in_ok-links.ensures.items at c.in_ok-link_blocks.ensures.added) c.in_ok-link_edges.ensures.added)
      c.in_ok-link_landings.ensures.added;
}

use Rattle.std.specs.List.{range_with_len}
use Rattle.liveness.proofs.Adding.{adds_on}
use Rattle.liveness.proofs.Joining.{none_in}
use Rattle.liveness.proofs.chart.Chart.all_reads.Goals as goal

pub returns-clause-read : goal.returns-clause-read
returns-clause-read c = record {
  read = λ p.
      adds_on _ _ _ _ _ (λ x h. none_in (range_with_len 0 c.count.result) p x (rw c.in_ok-all.ensures.none at h))
      (c.read_blocks.ensures.read p) (c.read_edges.ensures.read p);
}

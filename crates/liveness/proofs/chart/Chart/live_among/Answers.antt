use Rattle.liveness.proofs.Common.{arith, Part}
use Rattle.liveness.proofs.Adding.{adds_first, adds_next}
use Rattle.liveness.proofs.Joining.{adds_union, union_all}
use Rattle.liveness.proofs.chart.Chart.live_among.Goals as goal

pub loop-word-init : goal.loop-word-init
loop-word-init c =
    rw c.empty-live.ensures (adds_first {A = Part} _ _ _ _ (omega (arith, c.first_of-word.ensures.first)))

pub loop-word-preserved : goal.loop-word-preserved
loop-word-preserved c =
    adds_next {A = Part} _ _ _ _ _ _ (omega arith) c.loop-word.invariant
    (adds_union _ _ _ _ c.union-live.ensures.has c.live_landing.ensures)

pub returns : goal.returns
returns c = union_all _ _ _ _ _ c.loop-word.invariant (omega arith)

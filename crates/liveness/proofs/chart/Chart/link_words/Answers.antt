use Rattle.std.proofs.Common.{arith}
use Rattle.liveness.proofs.Adding.{adds_all, adds_next}
use Rattle.liveness.proofs.chart.Chart.link_words.Goals as goal

pub loop-word-preserved : goal.loop-word-preserved
loop-word-preserved c = record {
  added = adds_next _ _ _ _ _ _ (omega arith) c.loop-word.invariant.added c.in_ok-link_word.ensures.added;
  few = omega (arith, c.in_ok-link_word.ensures.few, c.loop-word.invariant.few);
}

pub returns-clause-added : goal.returns-clause-added
returns-clause-added c = adds_all _ _ _ _ _ _ c.loop-word.invariant.added (omega arith)

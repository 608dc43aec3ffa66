use Rattle.std.proofs.Common.{arith}
use Rattle.tool_kit.proofs.Answered.{all_answers, all_good, first_more}
use Rattle.tool_kit.proofs.tools.snips.Goals as goal

pub loop-number-preserved : goal.loop-number-preserved
loop-number-preserved g c =
    rw c.in_ok-push.ensures.items
    (first_more _ _ _ _ _ _ _ _ c.loop-number.invariant c.edge_at.ensures.edge c.answer.ensures.says
    c.answer.ensures.good)

pub returns-clause-answers : goal.returns-clause-answers
returns-clause-answers g c =
    rw (← c.edges-edges.ensures.edges)
    (all_answers _ _ _ _ _ _ c.loop-number.invariant (omega (arith, c.loop-number-test.false, c.loop-number.auto.number-end)))

pub returns-clause-good : goal.returns-clause-good
returns-clause-good g c =
    all_good _ _ _ _ _ _ c.loop-number.invariant (omega (arith, c.loop-number-test.false, c.loop-number.auto.number-end))

use Rattle.cfg_blocks.proofs.Common.{ap, arith, ◌||◌, ◌∙◌, get_or_default, is_it, target_in, end_in, marked}
use Rattle.cfg_blocks.proofs.Entering.{target_step}
use Rattle.cfg_blocks.proofs.leaders.mark_targets.Goals as goal

pub loop-end-preserved : goal.loop-end-preserved
loop-end-preserved c = λ k h.
    target_step c.loop-end.end-index (end_in c.args.ends.now) k (marked c.args.marks.now k) (marked c.loop-end.marks k)
    _ (c.loop-end.invariant k (omega arith))
    (c.mark_target.ensures k (omega arith)
    ∙ ap (λ to. marked c.loop-end.marks k || is_it k to) (c.target_of.ensures ∙ ap target_in
    (c.end-item.is ∙ get_or_default c.args.ends.now c.loop-end.end-index _ _ c.loop-end-test.true)))

use Rattle.std.proofs.Common.{arith, ◌∙◌}
use Rattle.snippets.proofs.Names.{one_more}
use Rattle.snippets.proofs.snippet.names_of.Goals as goal

pub loop-op-preserved : goal.loop-op-preserved
loop-op-preserved c =
    c.union-names.ensures.value
    ∙ one_more c.args.ops.now c.loop-op.op-index c.op-item.result _ _ _ (omega (arith, c.loop-op-test.true))
    c.op-item.is c.loop-op.invariant c.names.ensures

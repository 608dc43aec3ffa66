use Rattle.std.proofs.Common.{arith}
use Rattle.tool_kit.proofs.Known.{known_more}
use Rattle.tool_kit.proofs.tools.all_known.Goals as goal

pub loop-op-preserved : goal.loop-op-preserved
loop-op-preserved c =
    known_more c.args.ops.now c.loop-op.op-index c.op-item.result c.op-item.is (omega (arith, c.loop-op-test.true))
    c.loop-op.invariant c.known.ensures

pub returns : goal.returns
returns c = λ cells below k d l. c.loop-op.invariant k d (omega (arith, l, c.loop-op-test.false)) cells (below k d l)

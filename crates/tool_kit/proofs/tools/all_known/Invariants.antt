use Rattle.tool_kit.proofs.Known.{AreKnown}
use Rattle.tool_kit.proofs.tools.all_known.Given as goal

abbrev pub invariant-loop-op : goal.invariant-loop-op
invariant-loop-op l = AreKnown l.ops l.op-index

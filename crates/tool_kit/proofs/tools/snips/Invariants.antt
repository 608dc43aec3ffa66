use Rattle.tool_kit.proofs.Answered.{AreFirst}
use Rattle.tool_kit.proofs.tools.snips.Given as goal

abbrev pub invariant-loop-number : goal.invariant-loop-number
invariant-loop-number g l = AreFirst g.F.Chooser.says l.t.choose l.t.cells l.edges l.number l.snips.items

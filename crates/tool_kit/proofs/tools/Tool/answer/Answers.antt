use Rattle.std.proofs.Common.{rules}
use Rattle.tool_kit.proofs.Known.{good_ops}
use Rattle.tool_kit.proofs.tools.Tool.answer.Goals as goal

pub returns-clause-good : goal.returns-clause-good
returns-clause-good g c =
    good_ops c.args.self.now.cells c.choose-snippet.result c.ops.result.now c.ops.ensures.ops c.ops.ensures.few
    (search rules) c.all_known.ensures

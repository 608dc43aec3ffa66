use Rattle.std.proofs.Common.{arith}
use Rattle.std.proofs.lemmas.Grind.{common_steps}
use Rattle.routines.proofs.Adding.{first_name_more}
use Rattle.routines.proofs.starts.of_functions.Goals as goal

pub loop-func-preserved : goal.loop-func-preserved
loop-func-preserved c = λ word. grind (arith, common_steps, first_name_more, c.loop-func.invariant word)

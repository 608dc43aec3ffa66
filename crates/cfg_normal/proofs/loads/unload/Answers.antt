use Rattle.cfg_normal.proofs.Common.{arith, common_steps, unloaded}
use Rattle.std.proofs.lemmas.List.Edits.{map_over_more}
use Rattle.cfg_normal.proofs.loads.unload.Goals as goal

pub loop-value-preserved : goal.loop-value-preserved
loop-value-preserved c = grind (arith, common_steps, map_over_more unloaded)

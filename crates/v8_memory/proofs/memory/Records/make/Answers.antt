use Rattle.std.proofs.Common.{rules}
use Rattle.v8_memory.proofs.Kept.{kept_set}
use Rattle.v8_memory.proofs.memory.Records.make.Goals as goal

pub loop-n-preserved : goal.loop-n-preserved
loop-n-preserved c = search (rules, kept_set)

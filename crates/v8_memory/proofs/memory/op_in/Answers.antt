use Rattle.v8_memory.proofs.Kept.{kept_at}
use Rattle.v8_memory.proofs.memory.op_in.Goals as goal

pub returns-clause-kept : goal.returns-clause-kept
returns-clause-kept c = λ code kept.
    rw (← c.index-ops-place.is) at (kept_at code c.args.first c.args.ops.now c.args.place c.index-ops-place.result kept c.requires.within)

use Rattle.code_runs.proofs.LongJump.{long_jumps_store}
use Rattle.code_runs.proofs.long_jumps_store.Goals as goal

pub returns : goal.returns
returns c = long_jumps_store

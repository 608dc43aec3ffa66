use Rattle.code_runs.proofs.LongJump.{long_jumps_hop}
use Rattle.code_runs.proofs.long_jumps_hop.Goals as goal

pub returns : goal.returns
returns c = long_jumps_hop

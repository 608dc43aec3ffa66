use Rattle.switch_runs.proofs.Joined.{jumps_go_by_table}
use Rattle.switch_runs.proofs.jumps_go_by_table.Goals as goal

pub returns : goal.returns
returns c = jumps_go_by_table

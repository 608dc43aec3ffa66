use Rattle.walk_counts.proofs.Files.{executions_of_files_are_flows}
use Rattle.walk_counts.proofs.executions_of_files_are_flows.Goals as goal

pub returns : goal.returns
returns c = executions_of_files_are_flows

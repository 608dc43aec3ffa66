use Rattle.workload.proofs.Runs.{generated_runs_end}
use Rattle.workload.proofs.generated_runs_end.Goals as goal

pub returns : goal.returns
returns c = generated_runs_end

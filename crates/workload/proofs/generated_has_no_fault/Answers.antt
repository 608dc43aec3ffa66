use Rattle.workload.proofs.Faults.{has_no_fault}
use Rattle.workload.proofs.generated_has_no_fault.Goals as goal

pub returns : goal.returns
returns c = has_no_fault

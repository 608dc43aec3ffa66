use Rattle.workload.proofs.Texts.{generated_holds_its_code}
use Rattle.workload.proofs.generated_holds_its_code.Goals as goal

pub returns : goal.returns
returns c = generated_holds_its_code

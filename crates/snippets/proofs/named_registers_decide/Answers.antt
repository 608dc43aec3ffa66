use Rattle.snippets.proofs.Decide.{decide}
use Rattle.snippets.proofs.named_registers_decide.Goals as goal

pub returns : goal.returns
returns c = decide

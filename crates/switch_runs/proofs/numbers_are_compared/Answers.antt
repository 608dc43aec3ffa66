use Rattle.switch_runs.proofs.Numbered.{numbers_are_compared}
use Rattle.switch_runs.proofs.numbers_are_compared.Goals as goal

pub returns : goal.returns
returns c = numbers_are_compared

use Rattle.edit_core.proofs.Kept.{keeps_what_lives}
use Rattle.edit_core.proofs.keeps_what_lives.Goals as goal

pub returns : goal.returns
returns c = keeps_what_lives

use Rattle.layout.proofs.Going.{words_stand}
use Rattle.layout.proofs.words_stand.Goals as goal

pub returns : goal.returns
returns c = words_stand

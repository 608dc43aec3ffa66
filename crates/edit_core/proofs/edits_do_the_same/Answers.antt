use Rattle.edit_core.proofs.Outwardly.{does_the_same}
use Rattle.edit_core.proofs.edits_do_the_same.Goals as goal

pub returns : goal.returns
returns c = does_the_same

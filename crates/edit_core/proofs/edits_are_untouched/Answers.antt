use Rattle.edit_core.proofs.Outwardly.{edits_are_untouched}
use Rattle.edit_core.proofs.edits_are_untouched.Goals as goal

pub returns : goal.returns
returns c = edits_are_untouched

use Rattle.edit_core.proofs.Outwardly.{crash_alike}
use Rattle.edit_core.proofs.edits_crash_alike.Goals as goal

pub returns : goal.returns
returns c = crash_alike

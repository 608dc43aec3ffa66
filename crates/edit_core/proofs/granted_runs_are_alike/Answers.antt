use Rattle.edit_core.proofs.Outwardly.{granted_runs_are_alike}
use Rattle.edit_core.proofs.granted_runs_are_alike.Goals as goal

pub returns : goal.returns
returns c = granted_runs_are_alike

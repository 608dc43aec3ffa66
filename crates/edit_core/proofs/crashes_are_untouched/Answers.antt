use Rattle.edit_core.proofs.Outwardly.{crashes_are_untouched}
use Rattle.edit_core.proofs.crashes_are_untouched.Goals as goal

pub returns : goal.returns
returns c = crashes_are_untouched

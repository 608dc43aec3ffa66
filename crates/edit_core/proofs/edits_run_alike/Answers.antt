use Rattle.edit_core.proofs.Common.{pieces_fit, pieces_make_images}
use Rattle.edit_core.proofs.RunsAlike.{edits_run_alike}
use Rattle.edit_core.proofs.edits_run_alike.Goals as goal

pub returns : goal.returns
returns c = edits_run_alike pieces_make_images pieces_fit

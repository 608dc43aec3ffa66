use Rattle.image_code.proofs.Fit.{pieces_fit}
use Rattle.image_code.proofs.pieces_fit.Goals as goal

pub returns : goal.returns
returns c = pieces_fit

use Rattle.image_code.proofs.Made.{pieces_make_images}
use Rattle.image_code.proofs.pieces_make_images.Goals as goal

pub returns : goal.returns
returns c = pieces_make_images

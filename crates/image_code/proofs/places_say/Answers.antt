use Rattle.image_code.proofs.Fit.{places_say}
use Rattle.image_code.proofs.places_say.Goals as goal

pub returns : goal.returns
returns c = places_say

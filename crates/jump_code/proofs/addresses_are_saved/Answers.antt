use Rattle.jump_code.proofs.Keeping.{addresses_are_saved}
use Rattle.jump_code.proofs.addresses_are_saved.Goals as goal

pub returns : goal.returns
returns c = addresses_are_saved

use Rattle.jump_code.proofs.Finding.{looks_up}
use Rattle.jump_code.proofs.looks_up.Goals as goal

pub returns : goal.returns
returns c = looks_up

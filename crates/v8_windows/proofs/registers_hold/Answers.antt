use Rattle.v8_windows.proofs.Places.{registers_hold}
use Rattle.v8_windows.proofs.registers_hold.Goals as goal

pub returns : goal.returns
returns c = registers_hold

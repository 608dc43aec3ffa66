use Rattle.v8_windows.proofs.Places.{windows_overlap}
use Rattle.v8_windows.proofs.windows_overlap.Goals as goal

pub returns : goal.returns
returns c = windows_overlap

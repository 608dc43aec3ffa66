use Rattle.v8_windows.proofs.Places.{frames_fit}
use Rattle.v8_windows.proofs.frames_fit.Goals as goal

pub returns : goal.returns
returns c = frames_fit

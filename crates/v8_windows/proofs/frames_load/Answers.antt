use Rattle.v8_windows.proofs.Places.{frames_load}
use Rattle.v8_windows.proofs.frames_load.Goals as goal

pub returns : goal.returns
returns c = frames_load

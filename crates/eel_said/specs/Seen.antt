-- What contracts see of the files and the streams of a call.
use Rattle.eel_base.specs.declared.outside.Files as named_files
use Rattle.eel_base.specs.declared.outside.Sink as sink
use Rattle.eel_base.specs.declared.outside.Source as source
use Rattle.eel_said.specs.Outcome.{Stream, stream}
use Rattle.eel_said.specs.Shared.{Feed, Outside, Store, feed, outside, store}

abbrev pub files_seen : {F : Type 0} → named_files.Ghosts F → F → Store
files_seen seen files = store (seen.held files) (seen.faults files)

abbrev pub input_seen : {I : Type 0} → source.Ghosts I → I → Feed
input_seen seen input = feed (seen.left input) (seen.faults input)

abbrev pub stream_seen : {S : Type 0} → sink.Ghosts S → S → Stream
stream_seen seen out = stream (seen.taken out) (seen.faults out)

-- all four
abbrev pub outside_seen : {F I O E : Type 0} → named_files.Ghosts F → source.Ghosts I → sink.Ghosts O → sink.Ghosts E
    → F → I → O → E → Outside
outside_seen f i o e files input out err =
    outside (files_seen f files) (input_seen i input) (stream_seen o out) (stream_seen e err)

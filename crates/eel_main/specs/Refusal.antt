-- What comes of a call whose words could not be had.
use Rattle.std.specs.declared.io.ErrorKind.{ErrorKind}
use Rattle.eel_said.specs.Outcome.{Outcome, BadWords, OutOfMemory}

-- a word that is no text is outside the grammar
abbrev pub refusal_of : ErrorKind → Outcome
refusal_of ErrorKind.OutOfMemory = OutOfMemory
refusal_of _ = BadWords

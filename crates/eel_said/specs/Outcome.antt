-- What came of a command, and how it shows: a line on the error stream and a status.
use Rattle.std.specs.Prelude.{◌≡◌, ℕ, List, [], ◌∷◌, ◌++◌, Option, Some, None, codes, decimal}
use Rattle.std.specs.Fmt.{signed_decimal}
use Rattle.eel_base.specs.Fields.{hex_of}
use Rattle.eel_base.specs.Outside.{Rose, appended, TookPart}
use Rattle.v8_step.specs.declared.Ending.{Ending}
use Rattle.v8_step.specs.declared.Ending.TheVariants as endings
use Rattle.eel_said.specs.declared.outcome.LineCause.{LineCause}
use Rattle.eel_said.specs.declared.outcome.LineCause.TheVariants as causes
use Rattle.eel_said.specs.declared.outcome.CountCause.{CountCause}
use Rattle.eel_said.specs.declared.outcome.CountCause.TheVariants as count_causes

pub data Outcome : Type 0 where
  -- an edit is done, or a program was shown
  Done : Outcome
  -- a program ran for so many steps, and has ended or was stopped
  Stopped : (ending : Option Ending) (steps : ℕ) → Outcome
  -- the words are outside the grammar
  BadWords : Outcome
  -- the file has this fault
  BadFile : (name : List ℕ) (code : ℕ) → Outcome
  -- the line with this number is bad, of a script, of weights or of a listing
  BadLine : (name : List ℕ) (number : ℕ) (cause : LineCause) → Outcome
  -- the file leaves less room than an edit asks for
  NoRoom : (name : List ℕ) (needed had : ℕ) → Outcome
  -- the file has more bytes than `limit`
  TooLong : (name : List ℕ) (limit : ℕ) → Outcome
  -- the file has no notes
  NoNotes : (name : List ℕ) → Outcome
  -- its notes break a rule, first with their word at this offset
  BadNotes : (name : List ℕ) (at : ℕ) → Outcome
  -- the dump breaks a rule, first with its number at this offset
  BadDump : (name : List ℕ) (at : ℕ) → Outcome
  -- the notes of the file are not those of a profile
  NoProfile : (name : List ℕ) → Outcome
  -- the notes of the file are not those of its original with every word marked
  NotEveryWord : (name : List ℕ) → Outcome
  -- the notes of the file are not those of a trace
  NoTrace : (name : List ℕ) → Outcome
  -- nothing can be told of the dump
  NoCounts : (name : List ℕ) (cause : CountCause) → Outcome
  -- this cell of the dump holds what stands for no edge
  BadCell : (name : List ℕ) (cell value : ℕ) → Outcome
  OutOfMemory : Outcome
  DeviceFault : Outcome

abbrev pub status_of : Outcome → ℕ
status_of Done = 0
status_of (Stopped ending steps) = 0
status_of BadWords = 64
status_of (TooLong name limit) = 66
status_of (NoRoom name needed had) = 69
status_of OutOfMemory = 70
status_of DeviceFault = 74
status_of _ = 65

abbrev pub line : List ℕ → List ℕ
line text = codes "eel: " ++ text ++ 10 ∷ []

abbrev pub line_about : List ℕ → List ℕ → List ℕ
line_about name text = line (name ++ codes ": " ++ text)

-- how a run ended, or that it was stopped
abbrev pub ending_text : Option Ending → ℕ → List ℕ
ending_text None steps = codes "stopped " ++ decimal steps
ending_text (Some (endings.Exit status)) steps = codes "exit " ++ decimal status
ending_text (Some (endings.Trap number)) steps = codes "trap " ++ decimal number
ending_text (Some endings.Window) steps = codes "window"
ending_text (Some endings.Couple) steps = codes "couple"

-- what is bad about a line
abbrev pub cause_text : LineCause → List ℕ
cause_text causes.Grammar = codes "grammar"
cause_text causes.Edge = codes "edge"
cause_text causes.Cell = codes "cell"
cause_text causes.Operations = codes "operations"
cause_text causes.Total = codes "total"

-- why nothing can be told of a dump
abbrev pub count_cause_text : CountCause → List ℕ
count_cause_text (count_causes.Version of wanted) =
    codes "dump version " ++ decimal of ++ codes ", notes version " ++ decimal wanted
count_cause_text (count_causes.Length length wanted) =
    codes "made for " ++ decimal length ++ codes " bytes, " ++ decimal wanted ++ codes " wanted"
count_cause_text (count_causes.Shape cells wanted) =
    decimal cells ++ codes " cells, " ++ decimal wanted ++ codes " wanted"
count_cause_text (count_causes.Steps steps) = decimal steps ++ codes " steps"
count_cause_text (count_causes.Between pc) = codes "pc " ++ hex_of pc.0 ++ codes " between places"
count_cause_text (count_causes.Negative edge value) =
    codes "edge " ++ decimal edge.0 ++ codes " would be " ++ signed_decimal value
count_cause_text (count_causes.Large edge value) =
    codes "edge " ++ decimal edge.0 ++ codes " would be " ++ signed_decimal value

-- the line that says it; an edit and a listing that are done say nothing
abbrev pub line_of : Outcome → List ℕ
line_of Done = []
line_of (Stopped ending steps) = ending_text ending steps ++ 10 ∷ []
line_of BadWords = line (codes "bad words")
line_of (BadFile name code) = line_about name (codes "file fault " ++ decimal code)
line_of (BadLine name number cause) =
    line_about name (codes "line " ++ decimal number ++ codes ": " ++ cause_text cause)
line_of (TooLong name limit) = line_about name (codes "longer than " ++ decimal limit ++ codes " bytes")
line_of (NoRoom name needed had) =
    line_about name (codes "room " ++ decimal needed ++ codes " needed, " ++ decimal had ++ codes " had")
line_of (NoNotes name) = line_about name (codes "no notes")
line_of (BadNotes name at) = line_about name (codes "bad notes at " ++ decimal at)
line_of (BadDump name at) = line_about name (codes "bad dump at " ++ decimal at)
line_of (NoProfile name) = line_about name (codes "no profile")
line_of (NotEveryWord name) = line_about name (codes "not every word")
line_of (NoCounts name cause) = line_about name (count_cause_text cause)
line_of (NoTrace name) = line_about name (codes "no trace")
line_of (BadCell name cell value) = line_about name (codes "cell " ++ decimal cell ++ codes " has " ++ decimal value)
line_of OutOfMemory = line (codes "out of memory")
line_of DeviceFault = line (codes "device fault")

-- A stream of output: what it has taken, where it tells it, and its faults.
pub record Stream : Type 0 where
  pub taken : Option (List ℕ)
  pub faults : ℕ

abbrev pub stream : Option (List ℕ) → ℕ → Stream
stream taken faults = record { taken = taken; faults = faults }

-- the line was written, or a first part of it and then the stream failed
pub data Shows (outcome : Outcome) (status : ℕ) (old new : Stream) : Type 0 where
  shown : status ≡ status_of outcome → new.taken ≡ appended old.taken (line_of outcome)
      → Shows outcome status old new
  failed : status ≡ 74 → TookPart old.taken new.taken (line_of outcome) → Rose old.faults new.faults
      → Shows outcome status old new

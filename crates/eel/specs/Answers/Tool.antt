-- `edit IN OUT ..` by a tool: the file IN is read, and the lines of another if the tool takes some; both are judged, and IN
-- is edited as the tool asks, and written as OUT.
use Rattle.std.specs.Prelude.{◌≡◌, ◌⊎◌, ℕ, List, [], Option, Some, None}
use Rattle.eel_base.specs.Outside.{IsMissing}
use Rattle.cfg_view.specs.View.{view_of}
use Rattle.tool_kit.specs.Plans.{Plan}
use Rattle.edit_core.specs.Taken.{IsCramped}
use Rattle.eel_said.specs.Command.{Tool}
use Rattle.eel_said.specs.Command as words
use Rattle.eel_said.specs.Outcome.{Outcome, BadFile, BadLine, NoRoom, OutOfMemory}
use Rattle.eel_said.specs.Shared.{Meaning, Store, edit_limit, files_mean}
use Rattle.eel_reports.specs.Answers.Every.{every_word}
use Rattle.eel_reports.specs.Answers.Files.{IsFaulty, IsSound}
use Rattle.eel_reports.specs.Answers.Lines.{IsBadLineOf, lines_of}
use Rattle.eel_reports.specs.Answers.Steps.{Puts, Reads}
use Rattle.eel_reports.specs.Answers.Weighed.{AreWeightsOf}
use Rattle.eel.specs.Answers.Edit.{IsEditOf, plain_plan}
use Rattle.eel.specs.Answers.Profile.{AsksCounters, AsksGuessed}
use Rattle.eel.specs.Answers.Script.{IsScripted}
use Rattle.eel.specs.Answers.Trace.{trace_plan}

-- ---- what a tool asks for

-- which plans it asks of a file, by these lines
abbrev pub Asks : Tool → List ℕ → List ℕ → Plan → Type 0
Asks words.Plain bytes lines plan = plan ≡ plain_plan bytes
Asks words.Profile bytes lines plan = AsksGuessed [] bytes plan
Asks (words.Weighed name) bytes lines plan =
    (weights : List ℕ) × AreWeightsOf bytes lines weights × AsksCounters [] weights bytes plan
Asks words.Every bytes lines plan = AsksGuessed (every_word bytes) bytes plan
Asks (words.Trace bits) bytes lines plan = plan ≡ trace_plan bits bytes
Asks (words.Script name) bytes lines plan = IsScripted bytes lines plan

-- ---- refusals

-- IN was read, and the lines if the tool takes some, and the edit is refused: IN is judged, then the lines, and then the room.
abbrev pub IsNotEdited : Tool → List ℕ → List ℕ → List ℕ → Outcome → Type 0
IsNotEdited tool input bytes lines (BadFile named code) = (named ≡ input) × IsFaulty code bytes
IsNotEdited tool input bytes lines (BadLine named number cause) =
    IsSound bytes × IsBadLineOf tool (view_of bytes []) lines named number cause
IsNotEdited tool input bytes lines (NoRoom named needed had) =
    (plan : Plan) × (named ≡ input) × Asks tool bytes lines plan × IsCramped needed had bytes plan
IsNotEdited tool input bytes lines OutOfMemory = IsSound bytes
IsNotEdited tool input bytes lines _ = ⊥

-- ---- the edits

-- a file that was made of another by a plan that the tool asks for
abbrev pub IsEditBy : Tool → List ℕ → List ℕ → List ℕ → Type 0
IsEditBy tool bytes lines file = (plan : Plan) × Asks tool bytes lines plan × IsEditOf bytes plan file

-- The lines of a file are read, and lead on; or there is none to be read.
abbrev pub Takes : Option (List ℕ × ℕ) → Type 0 → (List ℕ → Type 0) → Store → Store → Outcome → Type 0
Takes None still next old new outcome = next []
Takes (Some file) still next old new outcome = Reads file.0 file.1 still next old new outcome

abbrev pub Edits : Tool → List ℕ → List ℕ → Store → Store → Outcome → Type 0
Edits tool input output old new outcome =
    Reads input edit_limit (new.held ≡ old.held)
    (λ bytes. Takes (lines_of tool) (new.held ≡ old.held)
    (λ lines. Puts (IsNotEdited tool input bytes lines) (IsEditBy tool bytes lines) output old new outcome) old new outcome)
    old new outcome

abbrev pub AreMissing : Option (List ℕ × ℕ) → Store → Type 0
AreMissing None files = ⊥
AreMissing (Some file) files = IsMissing files.held file.0

abbrev pub edit_means : Tool → List ℕ → List ℕ → Meaning
edit_means tool input output =
    files_mean (Edits tool input output) (λ files. IsMissing files.held input ⊎ AreMissing (lines_of tool) files)

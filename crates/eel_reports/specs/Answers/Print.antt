-- `show FILE` and `list FILE`: the file is read and judged, and lines of it are printed.
use Rattle.std.specs.Prelude.{◌≡◌, ℕ, List}
use Rattle.eel_base.specs.Outside.{IsMissing}
use Rattle.eel_said.specs.Outcome.{Outcome}
use Rattle.eel_said.specs.Shared.{Outside, Meaning, IsQuiet, HaveFailed, edit_limit, prints_mean}
use Rattle.eel_said.specs.declared.command.Shown.{Shown}
use Rattle.eel_said.specs.declared.command.Shown.TheVariants as shows
use Rattle.eel_reports.specs.Answers.Files.{IsNotSound, IsSound}
use Rattle.eel_reports.specs.Answers.List.{listed_of}
use Rattle.eel_reports.specs.Answers.Show.{shown_of}
use Rattle.eel_reports.specs.Answers.Steps.{Prints, Reads}

-- the lines of what is shown of a file
abbrev pub lines_by : Shown → List ℕ → List ℕ
lines_by shows.Graph bytes = shown_of bytes
lines_by shows.Words bytes = listed_of bytes

-- these are they, of a file without a fault
abbrev pub AreLinesOf : Shown → List ℕ → List ℕ → Type 0
AreLinesOf shown bytes lines = IsSound bytes × (lines ≡ lines_by shown bytes)

abbrev pub PrintsFile : Shown → List ℕ → Outside → Outside → Outcome → Type 0
PrintsFile shown file old new outcome =
    Reads file edit_limit (IsQuiet old new)
    (λ bytes. Prints (IsNotSound file bytes) (AreLinesOf shown bytes) old new outcome) old.files new.files outcome

abbrev pub show_means : Shown → List ℕ → Meaning
show_means shown file = prints_mean (PrintsFile shown file) (HaveFailed (λ files. IsMissing files.held file))

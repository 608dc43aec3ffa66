-- What contracts of this crate's code cite beyond the statement.
use Rattle.std.specs.Prelude.{ℕ, Some, None, ◌≡◌, List, [], Option, ◌≤◌, ◌^◌, get_or, length}
use Rattle.snippets.specs.declared.script.Script.{Script}
use Rattle.snippets.specs.Grammar.{AllSay, lines_of}
use Rattle.snippets.specs.Code.{IsScript}
use Rattle.snippets.specs.Cells.{WorksBelow}
use Rattle.elf32_sparc.specs.FileFault.{load_fault}
use Rattle.v8_step.specs.State.{State}
use Rattle.v8_process.specs.Start.{start_of}
use Rattle.cfg_view.specs.View.{Seen}
use Rattle.v8_runner.specs.declared.Stop.{Stop}
use Rattle.v8_runner.specs.declared.Stop.TheVariants as stops
use Rattle.eel_said.specs.Shared.{Feed, written_limit, Store, IsUnread, WasRead}
use Rattle.eel_said.specs.Outcome.{Outcome, Stopped, DeviceFault, OutOfMemory, BadLine}
use Rattle.eel_said.specs.Command.{Tool}
use Rattle.eel_said.specs.Command as words
use Rattle.eel_reports.specs.Answers.Run.{IsNotRun, IsUnfed, WasFed}
use Rattle.eel_reports.specs.Answers.Every.{every_word}
use Rattle.eel_reports.specs.Answers.Lines.{IsBadLineOf}

-- ---- programs that are run

-- FILE and the whole input were read, and the machine that is about to run its program was made.
pub record HasBegun (file : List ℕ) (args : List (List ℕ)) (files : Store) (old new : Feed) (bytes : List ℕ)
    (machine : State) : Type 0 where
  pub read : WasRead files file written_limit bytes
  pub input : List ℕ
  pub fed : WasFed old new input
  pub loads : load_fault bytes ≡ None
  pub is : machine ≡ start_of bytes args input

-- FILE or the input couldn't be read, or the program can't be loaded, and this comes of it.
pub data IsUnbegun (file : List ℕ) (old new : Store) (before after : Feed) (outcome : Outcome) : Type 0 where
  no_file : IsUnread old new file written_limit outcome → after ≡ before → IsUnbegun file old new before after outcome
  no_input : (bytes : List ℕ) → WasRead old file written_limit bytes → IsUnfed before after outcome
      → IsUnbegun file old new before after outcome
  not_loaded : (bytes : List ℕ) → WasRead old file written_limit bytes → (input : List ℕ) → WasFed before after input
      → IsNotRun file bytes outcome → IsUnbegun file old new before after outcome

-- what the end of a run comes to
abbrev pub stopped_of : Stop → ℕ → Outcome
stopped_of stops.Limit steps = Stopped None steps
stopped_of (stops.Ended ending) steps = Stopped (Some ending) steps
stopped_of stops.SinkFault steps = DeviceFault

-- ---- what tools take

-- its cells are few, and each snippet works on them
pub record HasCells (script : Script) : Type 0 where
  pub few : script.cells ≤ 2 ^ 22
  pub below : (edge : ℕ) → WorksBelow script.cells (get_or script.snips.items edge [])

-- what the program keeps of a script that was read for a graph of so many edges
abbrev pub IsReadAs : ℕ → List ℕ → Script → Type 0
IsReadAs edges lines script = (said : _) × AllSay (lines_of lines) said × IsScript edges said script

-- the words that a tool marks of a file
abbrev pub marks_of : Tool → List ℕ → List ℕ
marks_of words.Every bytes = every_word bytes
marks_of _ bytes = []

-- the lines that a tool takes were read, or are none; and they are no longer than they may be
abbrev pub AreLines : Option (List ℕ × ℕ) → Store → List ℕ → Type 0
AreLines None files lines = lines ≡ []
AreLines (Some file) files lines = WasRead files file.0 file.1 lines

abbrev pub AreUnread : Option (List ℕ × ℕ) → Store → Store → Outcome → Type 0
AreUnread None old new outcome = ⊥
AreUnread (Some file) old new outcome = IsUnread old new file.0 file.1 outcome

abbrev pub AreWithin : Option (List ℕ × ℕ) → List ℕ → Type 0
AreWithin None lines = Unit {0}
AreWithin (Some file) lines = length lines ≤ file.1

-- the lines were read for a program, and are refused
abbrev pub AreRefused : Tool → Seen → List ℕ → Outcome → Type 0
AreRefused tool view lines (BadLine named number cause) = IsBadLineOf tool view lines named number cause
AreRefused tool view lines OutOfMemory = Unit {0}
AreRefused tool view lines _ = ⊥

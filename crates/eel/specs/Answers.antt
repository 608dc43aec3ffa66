-- What comes of the words of a call, and why, and what is there afterwards: each command has a file.
pub mod Edit
pub mod Script
pub mod Profile
pub mod Trace
pub mod Tool
pub mod Dump
pub mod ExactCounts
pub mod ExactVisits
pub mod LastEdges
pub mod Report
use Rattle.std.specs.Prelude.{◌≡◌, ℕ, ◌≤◌, ◌⊎◌}
use Rattle.eel_base.specs.Outside.{Rose, appended}
use Rattle.eel_said.specs.Command.{Command}
use Rattle.eel_said.specs.Command as words
use Rattle.eel_said.specs.Outcome.{Outcome, BadWords, Stream, Shows, line_of, status_of}
use Rattle.eel_said.specs.Shared.{Outside, Meaning, with_err, IsUnused, IsQuiet, IsSilent}
use Rattle.eel_reports.specs.Answers.Print.{show_means}
use Rattle.eel_reports.specs.Answers.Words.{words_means}
use Rattle.eel_reports.specs.Answers.Restore.{restore_means}
use Rattle.eel_reports.specs.Answers.Demo.{demo_means}
use Rattle.eel.specs.Answers.Tool.{edit_means}
use Rattle.eel.specs.Answers.Dump.{run_means}
use Rattle.eel.specs.Answers.Report.{report_means}

-- words outside the grammar
abbrev pub unknown_means : Meaning
unknown_means = record {
  follows = λ old new outcome.
      (outcome ≡ BadWords) × (new.files.held ≡ old.files.held) × IsUnused old new × IsQuiet old new;
  wants = IsSilent;
  fails = λ old new. ⊥;
}

abbrev pub meaning_of : Command → Meaning
meaning_of (words.Edit input output tool) = edit_means tool input output
meaning_of (words.Run file limit dump args) = run_means file limit dump args
meaning_of (words.Show shown file) = show_means shown file
meaning_of (words.PutWords listing output) = words_means listing output
meaning_of (words.Restore written output) = restore_means written output
meaning_of (words.ReportRun report written dump) = report_means report written dump
meaning_of (words.Demo number routines) = demo_means number routines
meaning_of words.Unknown = unknown_means

-- A call of the program: some outcome follows from the command, and then its line is written to the error stream.
-- `err` is that stream between the two.
pub record Ran (command : Command) (old new : Outside) (status : ℕ) : Type 0 where
  pub outcome : Outcome
  pub err : Stream
  pub follows : (meaning_of command).follows old (with_err new err) outcome
  pub shown : Shows outcome status err new.err
  pub later : old.err.faults ≤ err.faults
  pub at_last : err.faults ≤ new.err.faults

-- ---- the same, by the status

-- Status 0: what was asked for is done, or a program has run, and nothing else; then the line was written.
pub record IsDone (command : Command) (old new : Outside) : Type 0 where
  pub outcome : Outcome
  pub good : status_of outcome ≡ 0
  pub err : Stream
  pub follows : (meaning_of command).follows old (with_err new err) outcome
  pub line : new.err.taken ≡ appended err.taken (line_of outcome)

-- Statuses 64, 65, 66 and 69: no file has changed, and nothing is put out.
abbrev pub IsRefusal : ℕ → Type 0
IsRefusal status = (status ≡ 64) ⊎ (status ≡ 65) ⊎ (status ≡ 66) ⊎ (status ≡ 69)

pub record IsUnchanged (old new : Outside) : Type 0 where
  pub files : new.files.held ≡ old.files.held
  pub out : IsSilent old new

-- Status 70: no file has changed, and what is put out is as the command says.
pub record WasWanting (command : Command) (old new : Outside) : Type 0 where
  pub files : new.files.held ≡ old.files.held
  pub out : (meaning_of command).wants old new

-- Status 74: the error stream has failed, or an object that the command uses, or a name that it reads is missing.
abbrev pub HasFailed : Command → Outside → Outside → Type 0
HasFailed command old new = Rose old.err.faults new.err.faults ⊎ (meaning_of command).fails old new

-- What is made from a number is never refused: there is no other status than 0, 70 and 74.
abbrev pub IsUnrefused : Command → ℕ → Type 0
IsUnrefused (words.Demo number routines) status = (status ≡ 0) ⊎ (status ≡ 70) ⊎ (status ≡ 74)
IsUnrefused _ status = Unit {0}

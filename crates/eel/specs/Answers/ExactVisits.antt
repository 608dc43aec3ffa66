-- What the visits of a profile with every word marked are: those of the original's run.
use Rattle.std.specs.Prelude.{◌≡◌, ℕ, ◌<◌, List, length, slice_index}
use Rattle.eel_base.specs.CodeText.{address_of}
use Rattle.flows.specs.Flows.{times}
use Rattle.elf32_sparc.specs.Image.{image_of}
use Rattle.notes.specs.Format.{Notes}
use Rattle.v8_step.specs.State.{State}
use Rattle.two_runs.specs.Visits.{own_trail}
use Rattle.v8_process.specs.Start.{start_of}
use Rattle.dump_file.specs.Dump.{Dump}
use Rattle.exact_counts.specs.Clear.{AreOver}
use Rattle.edit_core.specs.RunsAlike.{visits_by}
use Rattle.eel_said.specs.Outcome.{Outcome}
use Rattle.eel_reports.specs.Answers.Restore.{original_in}
use Rattle.eel_reports.specs.Answers.Every.{every_word}
use Rattle.eel.specs.Answers.ExactCounts.{IsOfRun, MayMiss}

-- how often n steps of a run of the original carry out each word, slots included
pub record AreOwnVisits (original file : List ℕ) (notes : Notes) (s0 : State) (n : ℕ) (visits : List ℕ) : Type 0 where
  pub stands : original_in file notes ≡ original
  pub len : length visits ≡ length (image_of original).text.words
  pub each : (word : ℕ) → word < length (image_of original).text.words
      → slice_index visits word ≡ times (own_trail s0 n) (address_of (image_of original).text word)

-- Where the file is a profile of an original with every word marked, and the dump is what a run of it has come to, they
-- are those of the original's run, with as many steps as there were visits: for all arguments and every input.
abbrev pub AreExactVisits : List ℕ → Notes → Dump → List ℕ → Type 0
AreExactVisits file notes dump visits =
    (original : List ℕ) (args : List (List ℕ)) (input : List ℕ) (m : ℕ)
    → (made : IsOfRun original file notes dump args input m) → made.plan.marks ≡ every_word original
    → AreOwnVisits original file notes (start_of original args input) (visits_by notes (start_of file args input) m) visits

-- And where both runs are over they are those of the original's whole run.
abbrev pub AreVisitsOfWholeRuns : List ℕ → Notes → Dump → List ℕ → Type 0
AreVisitsOfWholeRuns file notes dump visits =
    (original : List ℕ) (args : List (List ℕ)) (input : List ℕ) (n m : ℕ)
    → (made : IsOfRun original file notes dump args input m) → made.plan.marks ≡ every_word original
    → AreOver (start_of original args input) (start_of file args input) n m
    → AreOwnVisits original file notes (start_of original args input) n visits

-- And there are visits, but for want of memory, and where the run stands between places, which it doesn't where it has
-- ended.
abbrev pub AreSeldomUnvisited : List ℕ → List ℕ → Notes → Dump → Outcome → Type 0
AreSeldomUnvisited file name notes dump outcome =
    (original : List ℕ) (args : List (List ℕ)) (input : List ℕ) (m : ℕ)
    → (made : IsOfRun original file notes dump args input m) → made.plan.marks ≡ every_word original
    → MayMiss name dump outcome

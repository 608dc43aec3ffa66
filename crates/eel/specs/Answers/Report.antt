-- `counts WRITTEN DUMP`, `visits WRITTEN DUMP`, `trace WRITTEN DUMP`: the file WRITTEN and the dump DUMP are read, the
-- notes of the one and then the other are judged, and then whether they tell what is asked for; that is printed.
use Rattle.std.specs.Prelude.{ℕ, ◌⊎◌, List}
use Rattle.eel_base.specs.Outside.{IsMissing}
use Rattle.notes.specs.Format.{Notes}
use Rattle.dump_file.specs.Dump.{Dump}
use Rattle.eel_said.specs.declared.command.Report.{Report}
use Rattle.eel_said.specs.declared.command.Report.TheVariants as reports
use Rattle.eel_said.specs.Outcome.{Outcome}
use Rattle.eel_said.specs.Shared.{Outside, Meaning, IsQuiet, HaveFailed, prints_mean, written_limit}
use Rattle.eel_reports.specs.Answers.Steps.{Prints, Reads}
use Rattle.eel_reports.specs.Answers.Noted.{AreRead, AreUnread, dump_limit}
use Rattle.eel_reports.specs.Answers.Counts.{IsUncounted, TellCounts}
use Rattle.eel_reports.specs.Answers.Visits.{IsUnvisited, TellVisits}
use Rattle.eel.specs.Answers.ExactCounts.{AreExact, AreOfWholeRuns, AreSeldomMissed}
use Rattle.eel.specs.Answers.ExactVisits.{AreExactVisits, AreSeldomUnvisited, AreVisitsOfWholeRuns}
use Rattle.eel.specs.Answers.LastEdges.{AreLastOfWholeRuns, AreSeldomUntold, AreTheLast, IsUntold, TellEdges}

-- ---- what is told by the notes of a file and a dump

-- it isn't told by the notes of the file `written` and by the dump `name`
abbrev pub IsRefused : Report → List ℕ → List ℕ → List ℕ → Notes → Dump → Outcome → Type 0
IsRefused reports.Counts written file name notes dump outcome = IsUncounted written name notes dump outcome
IsRefused reports.Visits written file name notes dump outcome = IsUnvisited written file name notes dump outcome
IsRefused reports.LastEdges written file name notes dump outcome = IsUntold written name notes dump outcome

-- that comes seldom, where the dump is of a run of a file that was edited for it
abbrev pub IsSeldom : Report → List ℕ → List ℕ → Notes → Dump → Outcome → Type 0
IsSeldom reports.Counts file name notes dump outcome = AreSeldomMissed file name notes dump outcome
IsSeldom reports.Visits file name notes dump outcome = AreSeldomUnvisited file name notes dump outcome
IsSeldom reports.LastEdges file name notes dump outcome = AreSeldomUntold file name notes dump outcome

-- the lines tell it
abbrev pub Tell : Report → List ℕ → Notes → Dump → List ℕ → Type 0
Tell reports.Counts file notes dump lines = TellCounts notes dump lines
Tell reports.Visits file notes dump lines = TellVisits file notes dump lines
Tell reports.LastEdges file notes dump lines = TellEdges notes dump lines

-- and where the dump is of such a run, it is so of the original's
abbrev pub IsExact : (report : Report) (file : List ℕ) (notes : Notes) (dump : Dump) (lines : List ℕ)
    → Tell report file notes dump lines → Type 0
IsExact reports.Counts file notes dump lines tell =
    AreExact file notes dump tell.counts × AreOfWholeRuns file notes dump tell.counts
IsExact reports.Visits file notes dump lines tell =
    AreExactVisits file notes dump tell.visits × AreVisitsOfWholeRuns file notes dump tell.visits
IsExact reports.LastEdges file notes dump lines tell =
    AreTheLast file notes dump tell.edges × AreLastOfWholeRuns file notes dump tell.edges

-- ---- of bytes

-- the file `written` and the dump `name` were read, and it isn't told
abbrev pub IsUnreported : Report → List ℕ → List ℕ → List ℕ → List ℕ → Outcome → Type 0
IsUnreported report written file name bytes outcome =
    AreUnread written file name bytes outcome
    ⊎ ((notes : Notes) × (dump : Dump) × AreRead file bytes notes dump
    × IsRefused report written file name notes dump outcome)

-- the lines tell it, and it is so of the original's run
pub record IsReported (report : Report) (file bytes lines : List ℕ) : Type 0 where
  pub notes : Notes
  pub dump : Dump
  pub read : AreRead file bytes notes dump
  pub tell : Tell report file notes dump lines
  pub exact : IsExact report file notes dump lines tell

-- ---- the command

-- both were read, and it isn't told, which is seldom
pub record HasNone (report : Report) (written file name bytes : List ℕ) (outcome : Outcome) : Type 0 where
  pub is : IsUnreported report written file name bytes outcome
  pub seldom : (notes : Notes) (dump : Dump) → AreRead file bytes notes dump
      → IsSeldom report file name notes dump outcome

-- How it goes, step by step, and what comes of it.
abbrev pub Reports : Report → List ℕ → List ℕ → Outside → Outside → Outcome → Type 0
Reports report written dump old new outcome =
    Reads written written_limit (IsQuiet old new) (λ file.
    Reads dump dump_limit (IsQuiet old new) (λ bytes.
    Prints (HasNone report written file dump bytes) (IsReported report file bytes) old new outcome)
    old.files new.files outcome) old.files new.files outcome

abbrev pub report_means : Report → List ℕ → List ℕ → Meaning
report_means report written dump =
    prints_mean (Reports report written dump)
    (HaveFailed (λ files. IsMissing files.held written ⊎ IsMissing files.held dump))

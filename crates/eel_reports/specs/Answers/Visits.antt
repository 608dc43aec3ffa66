-- `visits WRITTEN DUMP`: whether the notes of WRITTEN are those of the original in it with every word marked is judged.
-- How often each edge was completed is rebuilt from them and the dump DUMP, and so how often each instruction ran.
use Rattle.std.specs.Prelude.{◌≡◌, ℕ, List}
use Rattle.elf32_sparc.specs.Image.{image_of}
use Rattle.notes.specs.Format.{Notes}
use Rattle.dump_file.specs.Dump.{Dump}
use Rattle.count_rebuild.specs.Answers.{AreCounts}
use Rattle.count_rebuild.specs.Noted.{IsProfile as HasProfile}
use Rattle.instr_counts.specs.Answers.{AreVisits}
use Rattle.instr_counts.specs.Lines.{visit_lines}
use Rattle.instr_counts.specs.Matches.{Matches}
use Rattle.eel_said.specs.Outcome.{Outcome, NotEveryWord, NoProfile, NoCounts, OutOfMemory}
use Rattle.eel_reports.specs.Answers.Files.{IsSound}
use Rattle.eel_reports.specs.Answers.Restore.{original_in}
use Rattle.eel_reports.specs.Answers.Every.{every_view}
use Rattle.eel_reports.specs.Answers.Counts.{HasCause}

-- The original in a file has no fault, and the notes are those of its graph with every word marked.
pub record HasEveryWord (file : List ℕ) (notes : Notes) : Type 0 where
  pub sound : IsSound (original_in file notes)
  pub matches : Matches (every_view (original_in file notes)) notes

-- ---- refusals

-- There are no visits by the notes of the file `written` and by the dump `name`: whether every word is marked is
-- judged, and then whether there are counts.
abbrev pub IsUnvisited : List ℕ → List ℕ → List ℕ → Notes → Dump → Outcome → Type 0
IsUnvisited written file name notes dump (NotEveryWord named) = (named ≡ written) × ¬ HasEveryWord file notes
IsUnvisited written file name notes dump (NoProfile named) =
    (named ≡ written) × HasEveryWord file notes × ¬ HasProfile notes
IsUnvisited written file name notes dump (NoCounts named cause) =
    (named ≡ name) × HasEveryWord file notes × HasCause notes dump cause
IsUnvisited written file name notes dump OutOfMemory = IsSound (original_in file notes)
IsUnvisited written file name notes dump _ = ⊥

-- ---- the visits

-- The lines tell how often each word was visited, by the one flow on the notes' graph that agrees with the cells, and
-- by where the run stands.
pub record TellVisits (file : List ℕ) (notes : Notes) (dump : Dump) (lines : List ℕ) : Type 0 where
  pub counts : List ℕ
  pub visits : List ℕ
  pub every : HasEveryWord file notes
  pub flow : AreCounts notes dump counts
  pub are : AreVisits (every_view (original_in file notes)) notes dump counts visits
  pub tell : lines ≡ visit_lines (image_of (original_in file notes)).text visits

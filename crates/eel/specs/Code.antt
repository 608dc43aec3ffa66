-- What contracts of this crate's code and laws cite beyond the statement.
use Rattle.std.specs.Prelude.{ℕ, List, Option, ◌≡◌, ◌≤◌, length, Ok}
use Rattle.notes.specs.Format.{Notes, notes_of}
use Rattle.v8_step.specs.State.{AreBytes}
use Rattle.cfg_view.specs.View.{view_of}
use Rattle.edge_ring.specs.Traces.{IsTrace}
use Rattle.eel_said.specs.Shared.{edit_limit}
use Rattle.eel_reports.specs.Answers.Trees.{AreCells}
use Rattle.eel.specs.Answers.Edit.{IsEditOf}
use Rattle.eel.specs.Answers.Profile.{plan_with}
use Rattle.eel.specs.Answers.ExactCounts.{IsProfile}
use Rattle.eel.specs.Answers.Trace.{trace_plan}
use Rattle.eel.specs.Answers.LastEdges.{IsTraceOf}

-- a file that was made of another with these marks, with counters on the edges off a tree
pub record IsMarkedProfile (marks weights bytes file : List ℕ) : Type 0 where
  pub cells : List (Option ℕ)
  pub are : AreCells (view_of bytes marks).graph weights cells
  pub made : IsEditOf bytes (plan_with marks cells) file

-- a file that an edit for counts made of an original is one, with version 2
abbrev pub EditsAreProfiles : Type 0
EditsAreProfiles =
    (marks weights original file : List ℕ) (notes : Notes) → length original ≤ edit_limit → AreBytes original
    → (made : IsMarkedProfile marks weights original file) → notes_of file ≡ Ok notes
    → (notes.version ≡ 2) × IsProfile original (plan_with marks made.cells) file notes

-- A file that an edit with a ring made of an original is one, and has the notes of a trace.
abbrev pub EditsAreTraces : Type 0
EditsAreTraces =
    (bits : ℕ) (original file : List ℕ) (notes : Notes) → 1 ≤ bits → bits ≤ 16
    → IsEditOf original (trace_plan bits original) file → notes_of file ≡ Ok notes
    → IsTraceOf bits original file × IsTrace notes

-- `edit IN OUT profile` puts counters on the edges off a spanning tree of the graph of IN. Some words of its text may be
-- marked: for `profile` none is.
use Rattle.std.specs.Prelude.{◌≡◌, ℕ, ◌*◌, List, map, Option}
use Rattle.cfg_view.specs.View.{view_of}
use Rattle.span_tree.specs.Cells.{cell_count}
use Rattle.tool_kit.specs.declared.edge_ref.ToolKind.TheVariants as tools
use Rattle.tool_kit.specs.Plans.{Plan}
use Rattle.notes.specs.Format.{counter_width}
use Rattle.exact_counts.specs.Profiles.{counter_in}
use Rattle.eel_reports.specs.Answers.Trees.{AreCells, guessed_with}
use Rattle.eel.specs.Answers.Edit.{plan_of}

-- It counts each edge that has a number, in as many cells as a counter has in version 2 of the notes, one counter behind
-- the other.
abbrev pub plan_with : List ℕ → List (Option ℕ) → Plan
plan_with marks cells = plan_of tools.Profile marks (counter_width 2 * cell_count cells) (map (counter_in 2) cells)

-- a plan with these marks, with counters on the edges off a tree that weighs most by these weights
abbrev pub AsksCounters : List ℕ → List ℕ → List ℕ → Plan → Type 0
AsksCounters marks weights bytes plan =
    (cells : List (Option ℕ)) × AreCells (view_of bytes marks).graph weights cells × (plan ≡ plan_with marks cells)

-- by the weights that are guessed
abbrev pub AsksGuessed : List ℕ → List ℕ → Plan → Type 0
AsksGuessed marks bytes plan = AsksCounters marks (guessed_with bytes marks) bytes plan

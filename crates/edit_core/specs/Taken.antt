-- Which files are edited, and why others are not.
use Rattle.std.specs.Prelude.{◌≡◌, ℕ, ◌+◌, ◌*◌, ◌^◌, ◌<◌, ◌≤◌, List, ◌∷◌, length, None}
use Rattle.eel_base.specs.CodeText.{Words}
use Rattle.elf32_sparc.specs.FileFault.{fault}
use Rattle.elf32_sparc.specs.Image.{image_of}
use Rattle.cfg_normal.specs.declared.Edge.{Edge}
use Rattle.cfg_normal.specs.Graph.{Graph}
use Rattle.cfg_view.specs.View.{view_of}
use Rattle.snippets.specs.declared.snippet.Op.{Op}
use Rattle.tool_kit.specs.declared.edge_ref.ToolKind.{ToolKind}
use Rattle.tool_kit.specs.declared.edge_ref.ToolKind.TheVariants as tools
use Rattle.tool_kit.specs.Plans.{Plan}
use Rattle.image_code.specs.Copies.{copies_of}

-- ---- operations

-- How many operations an edge is taken to have. In a profile it is one, so that they are as many for every choice of
-- counted edges.
abbrev pub counted_on : ToolKind → List Op → ℕ
counted_on tools.Profile ops = 1
counted_on _ ops = length ops

-- the operations on some edges, counted as often as they are made
abbrev pub operations_on : ToolKind → Graph → List Edge → List (List Op) → ℕ
operations_on kind graph (edge ∷ edges) (ops ∷ snips) =
    copies_of graph edge * counted_on kind ops + operations_on kind graph edges snips
operations_on kind graph _ _ = 0

-- ---- how much room an edit asks for

-- in bytes
abbrev pub bound_by : Words → Graph → ToolKind → ℕ → List (List Op) → ℕ
bound_by text graph kind cells snips =
    2 ^ 20 + 512 * length text.words + 4 * cells + 128 * operations_on kind graph graph.edges snips

abbrev pub bound_of : Words → Graph → Plan → ℕ
bound_of text graph plan = bound_by text graph plan.kind plan.cells plan.snips

-- of a file, by a plan
abbrev pub bound_in : List ℕ → Plan → ℕ
bound_in bytes plan = bound_of (image_of bytes).text (view_of bytes plan.marks).graph plan

-- ---- which files are edited

-- a file without a fault, and room for its edit
pub record CanEdit (bytes : List ℕ) (plan : Plan) : Type 0 where
  pub sound : fault bytes ≡ None
  pub room : bound_in bytes plan ≤ (image_of bytes).room

-- too little room for its edit
pub record IsCramped (needed had : ℕ) (bytes : List ℕ) (plan : Plan) : Type 0 where
  pub sound : fault bytes ≡ None
  pub needed_is : needed ≡ bound_in bytes plan
  pub had_is : had ≡ (image_of bytes).room
  pub less : had < needed

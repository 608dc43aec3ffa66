-- What contracts of this crate's code and laws cite beyond the statement.
use Rattle.std.specs.Prelude.{ℕ, ◌≡◌, List, [], length, get_or, Some, slice_get}
use Rattle.snippets.specs.declared.snippet.Op.{Op}
use Rattle.cfg_blocks.specs.Marks.{numbers}
use Rattle.cfg_normal.specs.declared.Edge.{Edge}
use Rattle.tool_kit.specs.declared.edge_ref.EdgeRef.{EdgeRef}
use Rattle.tool_kit.specs.Kept.{Kept}
use Rattle.tool_kit.specs.Plans.{Plan}

-- an edge with its number
abbrev pub numbered : ℕ → Edge → EdgeRef
numbered number edge = record { no = record { 0 = number }; edge = edge }

-- The snippets are a callback's answers for some edges, which are numbered from 0.
pub record AreAnswers {F : Type 0} (says : F → EdgeRef → List Op → Type 0) (choose : F) (edges : List Edge)
    (snips : List (List Op)) : Type 0 where
  pub size : length snips ≡ length edges
  pub each : (number : ℕ) (edge : Edge) → slice_get edges number ≡ Some edge
      → says choose (numbered number edge) (get_or snips number [])

-- what the tool asks of a graph with these edges
pub record IsPlanOf {F : Type 0} (says : F → EdgeRef → List Op → Type 0) (tool : Kept F) (edges : List Edge)
    (plan : Plan) : Type 0 where
  pub kind : plan.kind ≡ tool.kind
  pub marks : plan.marks ≡ numbers tool.marks
  pub cells : plan.cells ≡ tool.cells
  pub snips : AreAnswers says tool.choose edges plan.snips

-- `edit IN OUT ..`: what a tool may ask of the file IN, and the file that is made of it.
use Rattle.std.specs.Prelude.{◌≡◌, ℕ, List, [], length, map}
use Rattle.std.specs.List.{range_with_len}
use Rattle.cfg_normal.specs.declared.Edge.{Edge}
use Rattle.cfg_view.specs.View.{view_of}
use Rattle.snippets.specs.declared.snippet.Op.{Op}
use Rattle.tool_kit.specs.declared.edge_ref.ToolKind.{ToolKind}
use Rattle.tool_kit.specs.declared.edge_ref.ToolKind.TheVariants as tools
use Rattle.tool_kit.specs.Plans.{Plan}
use Rattle.edit_core.specs.Taken.{CanEdit}
use Rattle.edit_core.specs.Cost.{HasBoundedCost}
use Rattle.edit_core.specs.Faithful.{IsFaithful}
use Rattle.edit_core.specs.Outwardly.{DoesTheSame}

-- ---- what tools ask for

-- the edges of a file's graph
abbrev pub edges_in : List ℕ → List Edge
edges_in bytes = (view_of bytes []).graph.edges

-- what is asked of each edge, by its number
abbrev pub asked : (ℕ → List Op) → List ℕ → List (List Op)
asked ops bytes = map ops (range_with_len 0 (length (edges_in bytes)))

abbrev pub plan_of : ToolKind → List ℕ → ℕ → List (List Op) → Plan
plan_of kind marks cells snips = record { kind = kind; marks = marks; cells = cells; snips = snips }

-- `plain` asks for nothing
abbrev pub plain_plan : List ℕ → Plan
plain_plan bytes = plan_of tools.Plain [] 0 (asked (λ edge. []) bytes)

-- ---- the edits

-- A file that was made of another by a plan: it does the same, it is faithful, and its notes and its cost are those of this
-- version.
pub record IsEditOf (bytes : List ℕ) (plan : Plan) (file : List ℕ) : Type 0 where
  pub taken : CanEdit bytes plan
  pub same : DoesTheSame bytes file
  pub faithful : IsFaithful bytes plan file
  pub version : faithful.notes.version ≡ 2
  pub cost : HasBoundedCost bytes plan file faithful.notes

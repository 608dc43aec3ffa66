-- A profile of an original: counters on some edges of its flow graph, and a written file that has them.
use Rattle.std.specs.Prelude.{◌≡◌, ℕ, ◌*◌, Bool, true, false, List, [], ◌∷◌, length, Option, Some, None, ◌^◌, ◌==◌, if◌then◌else◌}
use Rattle.std.specs.List.{All}
use Rattle.notes.specs.Format.{counter_width}
use Rattle.flows.specs.Flows.{EdgeSet, rest}
use Rattle.flows.specs.SpanningTrees.{IsSpanningTree}
use Rattle.snippets.specs.declared.snippet.Op.{Op}
use Rattle.snippets.specs.Cells.{WorksBelow}
use Rattle.cfg_normal.specs.Graph.{Graph}
use Rattle.cfg_normal.specs.Numbers.{is_node}
use Rattle.tool_kit.specs.declared.edge_ref.ToolKind.TheVariants as tools
use Rattle.tool_kit.specs.Plans.{AreCounters, Plan, counter_op}
use Rattle.cfg_view.specs.View.{view_of}
use Rattle.span_tree.specs.Links.{links_of}
use Rattle.image_code.specs.Store.{snippet_on}

abbrev pub is_counter : List Op → Bool
is_counter [] = false
is_counter (op ∷ ops) = true

-- the edges that have a counter
abbrev pub counted_by : List (List Op) → EdgeSet
counted_by snips = λ e. is_counter (snippet_on snips e)

-- Counters of a version, in cells of their own. The edges without one are a spanning tree of the blocks and of what
-- lies outside, so that the counts of the others determine all (Ball and Larus, "Optimally Profiling and Tracing
-- Programs", ACM TOPLAS 16 (4), 1994, section 3).
pub record CountsOffTree (version : ℕ) (graph : Graph) (plan : Plan) : Type 0 where
  pub kind : plan.kind ≡ tools.Profile
  pub size : length plan.snips ≡ length graph.edges
  pub counters : AreCounters version 0 plan.snips
  pub below : All (WorksBelow plan.cells) plan.snips
  pub tree : IsSpanningTree (links_of graph) (is_node graph) (rest (counted_by plan.snips))

-- the counter of an edge with this number among those that are counted
abbrev pub counter_in : ℕ → Option ℕ → List Op
counter_in version None = []
counter_in version (Some number) = counter_op version (counter_width version * number) ∷ []

-- the flow graph of an original, where the words that are marked lead besides
abbrev pub original_graph : List ℕ → Plan → Graph
original_graph original plan = (view_of original plan.marks).graph

-- where a counter begins at 0 again, by the version of the notes
abbrev pub counter_limit : ℕ → ℕ
counter_limit version = if version == 1 then 2 ^ 32 else 2 ^ 64

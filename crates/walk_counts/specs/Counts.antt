-- How often a run completes each edge of the flow graph. Its walk is one of a plain graph, where nodes and
-- edges are numbers, so that the counts are a flow (Ball and Larus, "Optimally Profiling and Tracing Programs",
-- ACM TOPLAS 16 (4), 1994).
use Rattle.std.specs.Prelude.{ℕ, List, Some, ℤ, pos}
use Rattle.eel_base.specs.CodeText.{Words}
use Rattle.v8_step.specs.State.{State}
use Rattle.flows.specs.Flows.{Agree, AgreeOn, Determines, EdgeSet, IsFlow}
use Rattle.flows.specs.Walks.{IsWalk}
use Rattle.flows.specs.Code.{IsGraph}
use Rattle.cfg_blocks.specs.Blocks.{Blocks}
use Rattle.cfg_normal.specs.Opens.{Open}
use Rattle.cfg_normal.specs.Graph.{Graph, graph_of, node_of}
use Rattle.cfg_walk.specs.Walk.{walk, end_of_walk}
use Rattle.cfg_walk.specs.Matches.{OfEachRun}
use Rattle.cfg_normal.specs.Numbers.{node_number}
use Rattle.span_tree.specs.Links.{links_of}
use Rattle.walk_counts.specs.Files.{OfEachFile}
use Rattle.walk_counts.specs.Executions.{executions}

-- both ends of each edge are nodes, with any open switches
abbrev pub LinksAreAGraph : Type 0
LinksAreAGraph = (b : Blocks) (opens : List Open) → IsGraph (links_of (graph_of b opens))

-- ---- the walk of the first n steps of a run, and its counts

module _ (text : Words) (graph : Graph) (entry : ℕ) (s0 : State) (n : ℕ) where
  -- the number of the entry's block
  abbrev pub first_node : ℕ
  first_node = node_number graph (node_of graph.blocks (Some entry))

  -- the number of the node where the walk ends
  abbrev pub last_node : ℕ
  last_node = node_number graph (end_of_walk text graph entry s0 n)

  -- the walk is one of the plain graph
  abbrev pub IsPath : Type 0
  IsPath = IsWalk (links_of graph) first_node (walk text graph entry s0 n) last_node

  -- the counts that these are belong to a flow from the entry's block to the node where the walk ends
  abbrev pub IsFlowOfRun : (ℕ → ℤ) → Type 0
  IsFlowOfRun counts = IsFlow (links_of graph) first_node last_node counts

  -- how often each edge is completed is such a flow
  abbrev pub AreFlows : Type 0
  AreFlows = IsFlowOfRun (λ e. pos (executions text graph entry s0 n e))

  -- Where some edges determine the counts, the run's own counts on them give all of them: of the flows from the
  -- entry's block to where the walk ends, only the run's own has them.
  abbrev pub AreEnough : Type 0
  AreEnough =
      (edges : EdgeSet) (flow : ℕ → ℤ) → Determines (links_of graph) edges → IsFlowOfRun flow
      → AgreeOn (links_of graph) edges flow (λ e. pos (executions text graph entry s0 n e))
      → Agree (links_of graph) flow (λ e. pos (executions text graph entry s0 n e))

-- ---- what holds of them

-- also once the run has ended
abbrev pub WalksArePaths : Type 0
WalksArePaths = OfEachRun IsPath

abbrev pub ExecutionsAreFlows : Type 0
ExecutionsAreFlows = OfEachRun AreFlows

abbrev pub ExecutionsOfFilesAreFlows : Type 0
ExecutionsOfFilesAreFlows = OfEachFile AreFlows

abbrev pub CountsAreEnough : Type 0
CountsAreEnough = OfEachFile AreEnough

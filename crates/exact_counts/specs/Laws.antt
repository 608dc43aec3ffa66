-- Counts are exact: what is rebuilt from the dump of a written file's run, wherever it is stopped, is how often the
-- original's run completes each edge.
use Rattle.std.specs.Prelude.{◌≡◌, ℕ, ◌-◌, ◌%◌, ◌<◌, ◌≤◌, List, [], ◌∷◌, length, slice_index, None, ◌≢◌, Some, ◌*◌, Option}
use Rattle.std.specs.List.{All}
use Rattle.eel_base.specs.CodeText.{Words}
use Rattle.flows.specs.Flows.{rest}
use Rattle.flows.specs.SpanningTrees.{IsSpanningTree}
use Rattle.elf32_sparc.specs.Image.{image_of}
use Rattle.notes.specs.Format.{Notes, node_at, counter_width}
use Rattle.v8_step.specs.State.{State, AreBytes}
use Rattle.v8_process.specs.Arguments.{AreArguments}
use Rattle.v8_process.specs.Start.{start_of}
use Rattle.cfg_normal.specs.Graph.{Graph}
use Rattle.snippets.specs.Cells.{WorksBelow}
use Rattle.cfg_normal.specs.Numbers.{is_node}
use Rattle.span_tree.specs.Cells.{AreNumbered, cell_at, cell_count, has_cell}
use Rattle.span_tree.specs.Links.{links_of}
use Rattle.tool_kit.specs.Plans.{AreCounters, Plan, counter_op}
use Rattle.elf32_sparc.specs.FileFault.{fault}
use Rattle.v8_step.specs.Run.{run}
use Rattle.dump_file.specs.Dump.{Dump}
use Rattle.image_code.specs.Store.{Edit, snippet_on, store_of, cells_in}
use Rattle.count_rebuild.specs.declared.fault.CountFault.{CountFault}
use Rattle.count_rebuild.specs.declared.fault.CountFault.TheVariants as faults
use Rattle.count_rebuild.specs.Answers.{AreCounts}
use Rattle.count_rebuild.specs.Counts.{counter_value}
use Rattle.exact_counts.specs.Profiles.{original_graph, counter_limit, CountsOffTree, counter_in}
use Rattle.two_runs.specs.Needed.{IsUntouched}
use Rattle.two_runs.specs.Visits.{pages_of}
use Rattle.count_rebuild.specs.Code.{IsRefused}
use Rattle.walk_counts.specs.Executions.{executions}
use Rattle.edit_core.specs.RunsAlike.{HaveRunsAlike, visits_by, node_behind, AreRunsAlike}
use Rattle.edit_core.specs.Faithful.{HasGraph}
use Rattle.exact_counts.specs.Stops.{dump_at}
use Rattle.tool_kit.specs.declared.edge_ref.ToolKind.TheVariants as tools

-- no edge is completed twice in one step
abbrev pub ExecutionsAreFew : Type 0
ExecutionsAreFew =
    (text : Words) (graph : Graph) (entry : ℕ) (s0 : State) (n e : ℕ) → executions text graph entry s0 n e ≤ n

-- an edge's counter holds how often the run completed the edge, in 32 or in 64 bits
abbrev pub CellsCount : Type 0
CellsCount =
    (version : ℕ) (g : Edit) (entry : ℕ) (s0 : State) (n e cell : ℕ)
    → AreCounters version 0 g.snips → All (WorksBelow g.notes.cells) g.snips
    → snippet_on g.snips e ≡ counter_op version cell ∷ []
    → counter_value version (store_of g entry s0 n) cell
    ≡ executions g.text g.graph entry s0 n e % counter_limit version

-- Rebuilding may be refused where the run stands between places, which it doesn't where it has ended; and for want of
-- memory.
abbrev pub MayRefuse : Dump → CountFault → Type 0
MayRefuse dump (faults.Between pc) = (pc.0 ≡ dump.pc) × (dump.ending ≡ None)
MayRefuse dump faults.NoMemory = Unit {0}
MayRefuse dump _ = ⊥

-- For nothing else the dump is refused. What is answered is how often the first n steps of the original's run complete
-- each edge.
pub record IsExact (original : List ℕ) (plan : Plan) (notes : Notes) (s0 : State) (dump : Dump) (n : ℕ) : Type 0 where
  pub refused : (fault : CountFault) → IsRefused notes dump fault → MayRefuse dump fault
  pub counts : (counts : List ℕ) → AreCounts notes dump counts → (e : ℕ) → e < length notes.edges
      → slice_index counts e
      ≡ executions (image_of original).text (original_graph original plan) (image_of original).entry s0 n e

-- a profile of an original without a fault, written to a file with these notes
pub record IsProfiled (original : List ℕ) (plan : Plan) (file : List ℕ) (notes : Notes) : Type 0 where
  pub sound : fault original ≡ None
  pub bytes : AreBytes original
  pub counters : CountsOffTree notes.version (original_graph original plan) plan
  pub graph : HasGraph original plan notes
  pub runs : HaveRunsAlike original plan file notes

-- So it is wherever a run is stopped below 2^32 steps, or in version 2 of the notes below 2^64, where the original
-- touches no page in as many steps as there were visits: for all arguments and every input. The last visit is of the
-- instruction that step v - 1 carries out.
abbrev pub CountsAreExact : Type 0
CountsAreExact =
    (original : List ℕ) (plan : Plan) (file : List ℕ) (notes : Notes) (args : List (List ℕ)) (input : List ℕ) (m : ℕ)
    → IsProfiled original plan file notes → AreArguments args → AreBytes input
    → let s0 = start_of original args input in
    let t0 = start_of file args input in
    IsUntouched (pages_of notes) s0 (visits_by notes t0 m) → m < counter_limit notes.version
    → IsExact original plan notes s0 (dump_at notes t0 m) (visits_by notes t0 m - 1)

-- At its m-th state the run has ended, and the original touches no page within as many steps as there were visits.
pub record IsOver (notes : Notes) (s0 t0 : State) (m : ℕ) : Type 0 where
  pub ended : (run t0 m).ending ≢ None
  pub untouched : IsUntouched (pages_of notes) s0 (visits_by notes t0 m)

-- The original ends likewise, with step v. The cells are what the snippets make of the edges that the steps before
-- complete, and the run stands in a place of the node where these lead.
pub record EndsWithStep (e : Edit) (entry : ℕ) (s0 t0 : State) (m v : ℕ) : Type 0 where
  pub some : 0 < v
  pub few : v ≤ m
  pub before : (n : ℕ) → n < v → (run s0 n).ending ≡ None
  pub ending : (run s0 v).ending ≡ (run t0 m).ending
  pub cells : cells_in e.notes (run t0 m) ≡ store_of e entry s0 (v - 1)
  pub node : node_at e.notes (run t0 m).pc ≡ Some (node_behind e entry s0 (v - 1))

abbrev pub EndedRunsTell : Type 0
EndedRunsTell =
    (e : Edit) (entry : ℕ) (s0 t0 : State) (m : ℕ) → s0.ending ≡ None → AreRunsAlike e entry s0 t0
    → IsOver e.notes s0 t0 m → EndsWithStep e entry s0 t0 m (visits_by e.notes t0 m)

-- Counters off a spanning tree, by the list of which edges have one.
pub record CountsInCells (version : ℕ) (graph : Graph) (plan : Plan) (cells : List (Option ℕ)) : Type 0 where
  pub kind : plan.kind ≡ tools.Profile
  pub count : plan.cells ≡ counter_width version * cell_count cells
  pub size : length plan.snips ≡ length graph.edges
  pub len : length cells ≡ length graph.edges
  pub numbered : AreNumbered cells
  pub tree : IsSpanningTree (links_of graph) (is_node graph) (rest (has_cell cells))
  pub snips : (e : ℕ) → e < length graph.edges → snippet_on plan.snips e ≡ counter_in version (cell_at cells e)

abbrev pub TreesMakeProfiles : Type 0
TreesMakeProfiles =
    (version : ℕ) (graph : Graph) (plan : Plan) (cells : List (Option ℕ)) → CountsInCells version graph plan cells
    → CountsOffTree version graph plan

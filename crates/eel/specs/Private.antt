-- What only contracts of private functions and models cite.
use Rattle.std.specs.Prelude.{ℕ, Some, None, Bool, true, false, ◌≡◌, ◌≢◌, ◌⊎◌, List, [], Option, ◌+◌, ◌*◌, ◌<◌, ◌≤◌, ◌^◌, get_or, length, map}
use Rattle.std.specs.List.{range_with_len}
use Rattle.snippets.specs.Cells.{WorksBelow}
use Rattle.tool_kit.specs.Plans.{Plan}
use Rattle.elf32_sparc.specs.FileFault.{code_of, fault}
use Rattle.notes.specs.Format.{Notes}
use Rattle.cfg_view.specs.View.{view_of}
use Rattle.edit_core.specs.declared.requests.EditFault.{EditFault}
use Rattle.v8_step.specs.Run.{run}
use Rattle.dump_file.specs.Dump.{Dump}
use Rattle.exact_counts.specs.Stops.{dump_at}
use Rattle.v8_runner.specs.Made.{AreMade}
use Rattle.v8_runner.specs.declared.Stop.{Stop}
use Rattle.v8_runner.specs.declared.Stop.TheVariants as stops
use Rattle.eel_said.specs.Outcome.{Outcome, DeviceFault, OutOfMemory, Done, BadFile, NoRoom, NoCounts, NoTrace, BadCell}
use Rattle.eel_said.specs.Shared.{Store, IsPut}
use Rattle.edit_core.specs.declared.requests.EditFault.TheVariants as faults
use Rattle.edit_core.specs.Taken.{IsCramped}
use Rattle.edge_ring.specs.declared.fault.RingFault.{RingFault}
use Rattle.eel_said.specs.declared.outcome.CountCause.TheVariants as causes
use Rattle.edge_ring.specs.declared.fault.RingFault.TheVariants as ring_faults
use Rattle.edge_ring.specs.Ring.{ring_on}
use Rattle.exact_counts.specs.Profiles.{counter_in}
use Rattle.span_tree.specs.Cells.{AreNumbered, cell_at, cell_count}
use Rattle.snippets.specs.declared.snippet.Op.{Op}
use Rattle.tool_kit.specs.declared.edge_ref.EdgeRef.{EdgeRef}
use Rattle.tool_kit.specs.declared.edge_ref.ToolKind.{ToolKind}
use Rattle.tool_kit.specs.declared.edge_ref.ToolKind.TheVariants as kinds
use Rattle.eel_reports.specs.Code.{HasCells}
use Rattle.eel_reports.specs.Answers.Demo.{alone}
use Rattle.eel_reports.specs.Answers.Trees.{guessed_with, AreCells}
use Rattle.eel.specs.Answers.Profile.{plan_with}
use Rattle.eel.specs.Code.{IsMarkedProfile}
use Rattle.eel.specs.Answers.Edit.{plan_of}
use Rattle.eel.specs.declared.instrumentation.Instrumentation.{Instrumentation}
use Rattle.eel.specs.declared.instrumentation.Instrumentation.TheVariants as works

-- the run was broken off
abbrev pub was_broken : Stop → Bool
was_broken stops.SinkFault = true
was_broken _ = false

-- The dump was to be put once the run had come to `ended`, and this comes of it.
abbrev pub IsPutAfter : Store → Store → List ℕ → List ℕ → Outcome → Outcome → Type 0
IsPutAfter old new dump bytes ended outcome =
    ((outcome ≡ ended) × IsPut old new dump bytes Done)
    ⊎ ((outcome ≡ OutOfMemory) × IsPut old new dump bytes OutOfMemory)
    ⊎ ((outcome ≡ DeviceFault) × IsPut old new dump bytes DeviceFault)

-- what the run of a file comes to where it ends
pub record IsLastDump (file : List ℕ) (notes : Notes) (dump : Dump) : Type 0 where
  pub steps : ℕ
  pub made : AreMade (alone file) steps
  pub ended : (run (alone file) steps).ending ≢ None
  pub is : dump ≡ dump_at notes (alone file) steps

-- what a refused edit of a file comes to
abbrev pub refusal_of : List ℕ → EditFault → Outcome
refusal_of name (faults.File first) = BadFile name (code_of first)
refusal_of name (faults.Room needed had) = NoRoom name needed had
refusal_of name faults.NoMemory = OutOfMemory

abbrev pub guessed : List ℕ → List ℕ
guessed bytes = guessed_with bytes []

abbrev pub profile_plan : List (Option ℕ) → Plan
profile_plan cells = plan_with [] cells

-- ---- refusals

-- why a profile of some bytes, by these weights, is refused
abbrev pub ProfileRefuses : List ℕ → List ℕ → EditFault → Type 0
ProfileRefuses weights bytes (faults.File first) = fault bytes ≡ Some first
ProfileRefuses weights bytes (faults.Room needed had) =
    (cells : List (Option ℕ)) × AreCells (view_of bytes []).graph weights cells
    × IsCramped needed had bytes (profile_plan cells)
ProfileRefuses weights bytes faults.NoMemory = fault bytes ≡ None

abbrev pub IsProfileOf : List ℕ → List ℕ → List ℕ → Type 0
IsProfileOf weights bytes file = IsMarkedProfile [] weights bytes file

-- what a fault of the ring's reading comes to
abbrev pub untold_of : List ℕ → List ℕ → RingFault → Outcome
untold_of written name ring_faults.NoTrace = NoTrace written
untold_of written name (ring_faults.Version of wanted) = NoCounts name (causes.Version of wanted)
untold_of written name (ring_faults.Other length wanted) = NoCounts name (causes.Length length wanted)
untold_of written name (ring_faults.Shape cells wanted) = NoCounts name (causes.Shape cells wanted)
untold_of written name (ring_faults.Between pc) = NoCounts name (causes.Between pc)
untold_of written name (ring_faults.Entry cell value) = BadCell name cell value
untold_of written name ring_faults.NoMemory = OutOfMemory

-- ---- tools

-- ---- what an edit puts on edges

-- the operations on an edge, by its number
abbrev pub ops_on : Instrumentation → ℕ → List Op
ops_on works.Nothing edge = []
ops_on (works.Script script) edge = get_or script.snips.items edge []
ops_on (works.Counters tree) edge = counter_in 2 (cell_at tree edge)
ops_on (works.Ring bits) edge = ring_on bits edge

abbrev pub cells_of : Instrumentation → ℕ
cells_of works.Nothing = 0
cells_of (works.Script script) = script.cells
cells_of (works.Counters tree) = 2 * cell_count tree
cells_of (works.Ring bits) = 1 + 2 ^ bits

abbrev pub kind_of : Instrumentation → ToolKind
kind_of works.Nothing = kinds.Plain
kind_of (works.Script script) = kinds.Script
kind_of (works.Counters tree) = kinds.Profile
kind_of (works.Ring bits) = kinds.Trace

-- all that is asked of a file with these marks
abbrev pub plan_for : Instrumentation → List ℕ → List ℕ → Plan
plan_for work marks bytes =
    plan_of (kind_of work) marks (cells_of work)
    (map (λ edge. ops_on work edge) (range_with_len 0 (length (view_of bytes marks).graph.edges)))

-- there are few cells, and the operations work on them
abbrev pub IsFit : Instrumentation → Type 0
IsFit works.Nothing = Unit {0}
IsFit (works.Script script) = HasCells script
IsFit (works.Counters tree) = AreNumbered tree × (cell_count tree ≤ 2 ^ 22)
IsFit (works.Ring bits) = (1 ≤ bits) × (bits ≤ 16)

-- on which edges it is asked for operations, and which it may answer
abbrev pub MayAsk : Instrumentation → EdgeRef → Type 0
MayAsk work edge = IsFit work × (edge.no.0 < 2 ^ 24)

abbrev pub Says : Instrumentation → EdgeRef → List Op → Type 0
Says work edge ops = (ops ≡ ops_on work edge.no.0) × WorksBelow (cells_of work) ops

-- What a run of a written file has to do with the run of its original, with the same arguments and input.
use Rattle.std.specs.Prelude.{◌≡◌, ◌≢◌, ℕ, suc, ◌-◌, ◌<◌, List, length, Some, None}
use Rattle.elf32_sparc.specs.Image.{image_of}
use Rattle.notes.specs.Format.{NoteRange, Notes, node_at, range_at}
use Rattle.v8_memory.specs.Spans.{AllApart}
use Rattle.v8_step.specs.State.{State, AreBytes}
use Rattle.v8_step.specs.Run.{run}
use Rattle.two_runs.specs.Needed.{IsUntouched, instr_at, judged_in}
use Rattle.two_runs.specs.TwoRuns.{Answers, Ends, IsLeast}
use Rattle.two_runs.specs.Visits.{own_trail, pages_of, trail_of}
use Rattle.v8_process.specs.Arguments.{AreArguments}
use Rattle.v8_process.specs.Start.{start_of}
use Rattle.cfg_normal.specs.Numbers.{node_number}
use Rattle.cfg_view.specs.View.{view_of}
use Rattle.cfg_walk.specs.Walk.{end_of_walk}
use Rattle.image_code.specs.Store.{Edit, cells_in, store_of}
use Rattle.tool_kit.specs.Plans.{Plan}

-- an edit of an original by a plan, with these notes
abbrev pub edit_of : List ℕ → Plan → Notes → Edit
edit_of original plan notes = record {
  text = (image_of original).text;
  graph = (view_of original plan.marks).graph;
  snips = plan.snips;
  notes = notes;
}

-- the number of the node where the walk of n steps ends
abbrev pub node_behind : Edit → ℕ → State → ℕ → ℕ
node_behind e entry s0 n = node_number e.graph (end_of_walk e.text e.graph entry s0 n)

-- Where the original is over after n steps, the written file stands in a place of the node where their walk ended.
abbrev pub EndsAtNode : Edit → ℕ → State → State → ℕ → ℕ → Type 0
EndsAtNode e entry s0 t0 n m =
    (run s0 n).ending ≢ None → node_at e.notes (run t0 m).pc ≡ Some (node_behind e entry s0 n)

-- There is a first moment at which the written file is where the original is after n steps, by the same trail, and its
-- cells are then what the snippets make of the edges that these steps complete.
pub record IsAnswered (e : Edit) (entry : ℕ) (s0 t0 : State) (n : ℕ) : Type 0 where
  pub moment : ℕ
  pub first : IsLeast (Answers e.notes s0 t0 n) moment
  pub cells : cells_in e.notes (run t0 moment) ≡ store_of e entry s0 n
  pub node : EndsAtNode e entry s0 t0 n moment

-- ---- stops

-- how many of the first m + 1 states are visits
abbrev pub visits_by : Notes → State → ℕ → ℕ
visits_by notes t0 m = length (trail_of notes t0 (suc m))

-- What a stop after m steps tells where it is told to be at step n: the cells are what the snippets make of the edges that
-- n steps complete, and the run stands at the node where these lead; where it stands in a place, that is of the
-- instruction which step n carries out.
pub record TellsStep (e : Edit) (entry : ℕ) (s0 t0 : State) (m n : ℕ) : Type 0 where
  pub cells : cells_in e.notes (run t0 m) ≡ store_of e entry s0 n
  pub node : node_at e.notes (run t0 m).pc ≡ Some (node_behind e entry s0 n)
  pub address : (r : NoteRange) → range_at e.notes (run t0 m).pc ≡ Some r → r.address ≡ (run s0 n).pc

-- A stop after m steps, with v visits by then. In a place, or outside the pages, it tells of step v - 1, which the original
-- carries out; and where the run has ended, it is there.
pub record IsStop (e : Edit) (entry : ℕ) (s0 t0 : State) (m v : ℕ) : Type 0 where
  pub some : node_at e.notes (run t0 m).pc ≢ None → 0 < v
  pub lives : node_at e.notes (run t0 m).pc ≢ None → (run s0 (v - 1)).ending ≡ None
  pub tells : node_at e.notes (run t0 m).pc ≢ None → TellsStep e entry s0 t0 m (v - 1)
  pub placed : (run t0 m).ending ≢ None → node_at e.notes (run t0 m).pc ≢ None

-- Wherever the original stands after n steps: there is a moment at which the written file has visited what these carried
-- out, has ended as the original has or goes on as that does, with the same memory outside the pages, and has their cells.
pub record IsMatched (e : Edit) (entry : ℕ) (s0 t0 : State) (n : ℕ) : Type 0 where
  pub moment : ℕ
  pub trail : trail_of e.notes t0 moment ≡ own_trail s0 n
  pub ends : Ends e.notes s0 t0 n moment
  pub cells : cells_in e.notes (run t0 moment) ≡ store_of e entry s0 n

-- Where the original's first n steps touch no page of the notes:
pub record AreRunsAlike (e : Edit) (entry : ℕ) (s0 t0 : State) : Type 0 where
  -- Going on and ending, and the store.
  pub answered : (n : ℕ) → IsUntouched (pages_of e.notes) s0 n → IsAnswered e entry s0 t0 n
  -- Stops: wherever the run is stopped, with no touch in as many steps as it made visits.
  pub stops : (m : ℕ) → IsUntouched (pages_of e.notes) s0 (visits_by e.notes t0 m)
      → IsStop e entry s0 t0 m (visits_by e.notes t0 m)
  -- One step more, which judges no byte of the pages either, wherever it leads: into them, too, from the slot of a jump.
  pub leads : (n : ℕ) → IsUntouched (pages_of e.notes) s0 n
      → AllApart (pages_of e.notes) (judged_in (run s0 n) (instr_at (run s0 n))) → IsMatched e entry s0 t0 (suc n)

-- for all arguments and every input
abbrev pub ForEachRun : List ℕ → List ℕ → (State → State → Type 0) → Type 0
ForEachRun original file Holds =
    (args : List (List ℕ)) (input : List ℕ) → AreArguments args → AreBytes input
    → Holds (start_of original args input) (start_of file args input)

abbrev pub HaveRunsAlike : List ℕ → Plan → List ℕ → Notes → Type 0
HaveRunsAlike original plan file notes =
    ForEachRun original file (λ s0 t0. AreRunsAlike (edit_of original plan notes) (image_of original).entry s0 t0)

-- What contracts of this crate's code and laws cite beyond the statement.
use Rattle.std.specs.Prelude.{ℕ, List, ◌≡◌, Some, None, suc, [], ◌∷◌}
use Rattle.snippets.specs.declared.snippet.Op.{Op}
use Rattle.cfg_blocks.specs.Marks.{numbers}
use Rattle.tool_kit.specs.declared.edge_ref.EdgeRef.{EdgeRef}
use Rattle.tool_kit.specs.Kept.{Kept}
use Rattle.tool_kit.specs.Code.{IsPlanOf}
use Rattle.tool_kit.specs.Plans.{Plan}
use Rattle.elf32_sparc.specs.FileFault.{fault}
use Rattle.elf32_sparc.specs.declared.fault.ReadFault.{ReadFault}
use Rattle.cfg_view.specs.View.{view_of}
use Rattle.edit_core.specs.Faithful.{AreCounted, IsFaithful}
use Rattle.edit_core.specs.declared.requests.EditFault.{EditFault}
use Rattle.edit_core.specs.declared.requests.EditFault.TheVariants as faults
use Rattle.edit_core.specs.Taken.{IsCramped}
use Rattle.elf32_sparc.specs.declared.fault.ReadFault.TheVariants as reads
use Rattle.elf32_sparc.specs.Image.{image_of}
use Rattle.v8_memory.specs.Spans.{AllApart}
use Rattle.v8_step.specs.State.{State, AreBytes}
use Rattle.v8_step.specs.Run.{run}
use Rattle.two_runs.specs.Needed.{IsUntouched, instr_at, judged_in}
use Rattle.two_runs.specs.Refused.{above_first_page, IsGranted, IsRefused, IsUntouchedWhereRefused}
use Rattle.two_runs.specs.Visits.{pages_of}
use Rattle.two_runs.specs.TwoRuns.{IsBounded}
use Rattle.cfg_walk.specs.Walk.{gone_in}
use Rattle.v8_process.specs.Start.{start_of}
use Rattle.v8_process.specs.Arguments.{AreArguments}
use Rattle.image_code.specs.Cost.{limit_on}
use Rattle.image_code.specs.Store.{Edit}
use Rattle.edit_core.specs.Cost.{HasBoundedCost}
use Rattle.edit_core.specs.Outwardly.{DoesTheSame, LooksAs}
use Rattle.edit_core.specs.RunsAlike.{IsAnswered, IsStop, visits_by, ForEachRun, edit_of}

-- ---- by a tool: `says` tells what its callback may answer

module _ {F : Type 0} (says : F → EdgeRef → List Op → Type 0) (tool : Kept F) (original : List ℕ) where
  -- what the tool asks of the original's graph
  abbrev pub AsksOf : Plan → Type 0
  AsksOf plan = IsPlanOf says tool (view_of original (numbers tool.marks)).graph.edges plan

  -- a profile asks for counters of 64 bits
  abbrev pub CountsEdges : Type 0
  CountsEdges = (plan : Plan) → AsksOf plan → AreCounted 2 plan

-- why an edit of some bytes is refused, by a tool of which `IsPlan` says what it asks of them
abbrev pub EditRefuses : List ℕ → (Plan → Type 0) → EditFault → Type 0
EditRefuses bytes IsPlan (faults.File first) = fault bytes ≡ Some first
EditRefuses bytes IsPlan (faults.Room needed had) = (plan : Plan) × IsPlan plan × IsCramped needed had bytes plan
EditRefuses bytes IsPlan faults.NoMemory = fault bytes ≡ None

-- a fault of a reader as one of the edit
abbrev pub BecomesEditFault : ReadFault → EditFault → Type 0
BecomesEditFault (reads.File fault) edit = edit ≡ faults.File fault
BecomesEditFault reads.NoMemory edit = edit ≡ faults.NoMemory

-- ---- an edit as this version makes it

pub record IsEdited (original : List ℕ) (plan : Plan) (file : List ℕ) : Type 0 where
  pub faithful : IsFaithful original plan file
  pub version : faithful.notes.version ≡ 2
  pub cost : HasBoundedCost original plan file faithful.notes

-- Each faithful edit does what its original does.
abbrev pub EditsDoTheSame : Type 0
EditsDoTheSame = (original : List ℕ) (plan : Plan) (file : List ℕ) → IsFaithful original plan file → DoesTheSame original file

-- And what else is said of one holds where nothing is refused: then no page of its notes is touched.
abbrev pub EditsAreUntouched : Type 0
EditsAreUntouched =
    (original : List ℕ) (plan : Plan) (file : List ℕ) → (is : IsFaithful original plan file)
    → (args : List (List ℕ)) (input : List ℕ) (n : ℕ) → IsGranted (start_of original args input) n
    → IsUntouched (pages_of is.notes) (start_of original args input) n

-- So all that is said of a faithful edit up to a touch is so up to the first access that is refused.
pub record AreAlikeWhereGranted (e : Edit) (entry : ℕ) (s0 t0 : State) : Type 0 where
  pub answered : (n : ℕ) → IsGranted s0 n → IsAnswered e entry s0 t0 n
  pub bounded : (n : ℕ) → IsGranted s0 (suc n)
      → IsBounded e.notes s0 t0 n (limit_on e.snips (gone_in e.text e.graph entry s0 n))
  pub stops : (m : ℕ) → IsGranted s0 (visits_by e.notes t0 m) → IsStop e entry s0 t0 m (visits_by e.notes t0 m)

abbrev pub GrantedRunsAreAlike : Type 0
GrantedRunsAreAlike =
    (original : List ℕ) (plan : Plan) (file : List ℕ) → (is : IsEdited original plan file)
    → ForEachRun original file
    (AreAlikeWhereGranted (edit_of original plan is.faithful.notes) (image_of original).entry)

-- ---- and so where what is refused lies in the first 4096 bytes, as by a null pointer: no file has memory there

-- no page is touched
abbrev pub CrashesAreUntouched : Type 0
CrashesAreUntouched =
    (original : List ℕ) (plan : Plan) (file : List ℕ) → (is : IsFaithful original plan file)
    → (args : List (List ℕ)) (input : List ℕ) (n : ℕ)
    → IsUntouchedWhereRefused (above_first_page ∷ []) (start_of original args input) n
    → IsUntouched (pages_of is.notes) (start_of original args input) n

-- and behind the step that comes next, too, wherever that leads, all looks the same
abbrev pub EditsCrashAlike : Type 0
EditsCrashAlike =
    (original : List ℕ) (plan : Plan) (file : List ℕ) → IsFaithful original plan file
    → (args : List (List ℕ)) (input : List ℕ) → AreArguments args → AreBytes input
    → let s0 = start_of original args input in
    (n : ℕ) → IsUntouchedWhereRefused (above_first_page ∷ []) s0 n
    → (IsRefused (run s0 n) → AllApart (above_first_page ∷ []) (judged_in (run s0 n) (instr_at (run s0 n))))
    → (m : ℕ) × LooksAs s0 (start_of file args input) (suc n) m

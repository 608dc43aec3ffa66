-- `run FILE [-n LIMIT] [-d DUMP] [-- ARG..]`: the file is read, then the whole input, the file is judged and loaded, and
-- its program runs. What it has come to is written as DUMP, where one is named, before the ending line.
use Rattle.std.specs.Prelude.{◌≡◌, ◌≢◌, ℕ, ◌<◌, ◌⊎◌, true, false, List, [], Option, Some, None, Ok}
use Rattle.std.specs.List.{list_any}
use Rattle.eel_base.specs.Outside.{IsMissing, Rose, appended}
use Rattle.elf32_sparc.specs.FileFault.{load_fault}
use Rattle.elf32_sparc.specs.Mapping.{mappings}
use Rattle.notes.specs.Format.{Notes, notes_of}
use Rattle.v8_step.specs.declared.Ending.{Ending}
use Rattle.v8_step.specs.State.{State}
use Rattle.v8_step.specs.Run.{run, run_puts}
use Rattle.v8_process.specs.Start.{start_of}
use Rattle.dump_file.specs.Written.{dump_bytes}
use Rattle.edit_core.specs.Faithful.{holds_cells}
use Rattle.exact_counts.specs.Stops.{dump_of}
use Rattle.v8_runner.specs.Made.{AreMade}
use Rattle.eel_said.specs.Outcome.{Outcome, Stopped, BadNotes, OutOfMemory, DeviceFault, Done}
use Rattle.eel_said.specs.Shared.{HaveFailed, Outside, Meaning, WasRead, IsUnread, IsPut, IsUnused, IsQuiet, IsSilent, written_limit}
use Rattle.eel_reports.specs.Answers.Noted.{IsUnnoted}
use Rattle.eel_reports.specs.Answers.Run.{HasRun, IsNotRun, IsRun, IsUnfed, StopsAt, WasBroken, WasFed}

-- ---- the notes

-- the cells of the notes, if there are any, lie in one loaded segment with permission to be read (PF_R)
abbrev pub AreMapped : List ℕ → Notes → Type 0
AreMapped bytes notes = 0 < notes.cells → list_any (holds_cells notes.base notes.cells) (mappings bytes) ≡ true

-- the file has these notes, and their cells are mapped
pub record IsNoted (bytes : List ℕ) (notes : Notes) : Type 0 where
  pub reads : notes_of bytes ≡ Ok notes
  pub mapped : AreMapped bytes notes

-- The notes are read, and their cells aren't mapped: the word at 24 is the address of the cells. Memory may be wanting
-- for what is mapped.
abbrev pub AreUnmapped : List ℕ → List ℕ → Outcome → Type 0
AreUnmapped name bytes (BadNotes named at) =
    (notes : Notes) × (named ≡ name) × (at ≡ 24) × (notes_of bytes ≡ Ok notes) × (0 < notes.cells)
    × (list_any (holds_cells notes.base notes.cells) (mappings bytes) ≡ false)
AreUnmapped name bytes OutOfMemory = (notes : Notes) × (notes_of bytes ≡ Ok notes)
AreUnmapped name bytes _ = ⊥

-- FILE can be loaded, and has no notes whose cells can be told
abbrev pub IsNotNoted : List ℕ → List ℕ → Outcome → Type 0
IsNotNoted name bytes outcome = IsUnnoted name bytes outcome ⊎ AreUnmapped name bytes outcome

-- ---- the dump

abbrev pub dump_after : Notes → State → ℕ → List ℕ
dump_after notes s0 steps = dump_bytes (dump_of notes (run s0 steps) steps)

-- the run was not broken off; it has no line yet
pub record HasStopped (s0 : State) (limit : ℕ) (old new : Outside) : Type 0 where
  pub ending : Option Ending
  pub steps : ℕ
  pub ran : HasRun s0 limit ending steps [] old.out new.out old.err new.err

-- the dump was to be put, and that failed
pub record WasUnput (notes : Notes) (s0 : State) (limit : ℕ) (dump : List ℕ) (old new : Outside) : Type 0 where
  pub run : HasStopped s0 limit old new
  pub put : IsPut old.files new.files dump (dump_after notes s0 run.steps) DeviceFault

-- It was run, and this comes of it: the dump is put once the run has stopped, and want of memory leaves no trace of it.
abbrev pub IsDumped : Notes → State → ℕ → List ℕ → Outside → Outside → Outcome → Type 0
IsDumped notes s0 limit dump old new (Stopped ending steps) =
    HasRun s0 limit ending steps [] old.out new.out old.err new.err
    × IsPut old.files new.files dump (dump_after notes s0 steps) Done
IsDumped notes s0 limit dump old new OutOfMemory =
    HasStopped s0 limit old new × (new.files.held ≡ old.files.held)
IsDumped notes s0 limit dump old new DeviceFault =
    (WasBroken s0 limit old.out new.out old.err new.err × (new.files.held ≡ old.files.held))
    ⊎ WasUnput notes s0 limit dump old new
IsDumped notes s0 limit dump old new _ = ⊥

-- ---- the command

-- FILE and the input were read, and the program isn't run: it can't be loaded, or has no notes by which to dump it, where it
-- is to be dumped.
abbrev pub IsNotBegun : List ℕ → Option (List ℕ) → List ℕ → Outcome → Type 0
IsNotBegun file None bytes outcome = IsNotRun file bytes outcome
IsNotBegun file (Some dump) bytes outcome =
    IsNotRun file bytes outcome ⊎ ((load_fault bytes ≡ None) × IsNotNoted file bytes outcome)

-- it was run, and this comes of it
abbrev pub HasGone : List ℕ → State → ℕ → Option (List ℕ) → Outside → Outside → Outcome → Type 0
HasGone bytes s0 limit None old new outcome =
    IsRun s0 limit old.out new.out old.err new.err outcome × (new.files.held ≡ old.files.held)
HasGone bytes s0 limit (Some dump) old new outcome =
    (notes : Notes) × IsNoted bytes notes × IsDumped notes s0 limit dump old new outcome

-- How a run goes, step by step, and what comes of it.
pub data Runs (file : List ℕ) (limit : ℕ) (dump : Option (List ℕ)) (args : List (List ℕ)) (old new : Outside)
    (outcome : Outcome) : Type 0 where
  -- FILE gave no bytes
  unread : IsUnread old.files new.files file written_limit outcome → IsUnused old new → IsQuiet old new
      → new.files.held ≡ old.files.held → Runs file limit dump args old new outcome
  -- FILE was read, and not all of the input
  unfed : (bytes : List ℕ) → WasRead old.files file written_limit bytes
      → IsUnfed old.input new.input outcome → IsQuiet old new → new.files.held ≡ old.files.held
      → Runs file limit dump args old new outcome
  -- both were read, and the program isn't run
  refused : (bytes : List ℕ) → WasRead old.files file written_limit bytes
      → (input : List ℕ) → WasFed old.input new.input input
      → IsNotBegun file dump bytes outcome → IsQuiet old new → new.files.held ≡ old.files.held
      → Runs file limit dump args old new outcome
  -- it was run
  ran : (bytes : List ℕ) → WasRead old.files file written_limit bytes
      → (input : List ℕ) → WasFed old.input new.input input → load_fault bytes ≡ None
      → HasGone bytes (start_of bytes args input) limit dump old new outcome
      → Runs file limit dump args old new outcome

-- Memory was wanting for the dump, and the output has taken all that the run put out.
pub record HasPutAll (file : List ℕ) (limit : ℕ) (args : List (List ℕ)) (old new : Outside) : Type 0 where
  pub bytes : List ℕ
  pub read : WasRead old.files file written_limit bytes
  pub input : List ℕ
  pub fed : WasFed old.input new.input input
  pub steps : ℕ
  pub made : AreMade (start_of bytes args input) steps
  pub stops : StopsAt (start_of bytes args input) limit steps
  pub out : new.out.taken ≡ appended old.out.taken (run_puts (start_of bytes args input) steps 1)

abbrev pub run_means : List ℕ → ℕ → Option (List ℕ) → List (List ℕ) → Meaning
run_means file limit dump args = record {
  follows = Runs file limit dump args;
  wants = λ old new. IsSilent old new ⊎ ((dump ≢ None) × HasPutAll file limit args old new);
  fails = λ old new.
      HaveFailed (λ files. IsMissing files.held file) old.files new.files
      ⊎ Rose old.input.faults new.input.faults ⊎ Rose old.out.faults new.out.faults;
}

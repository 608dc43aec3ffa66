-- What a run comes to: the input is read, and the program runs. What it puts out goes to the output and to the error
-- stream.
use Rattle.std.specs.Prelude.{◌≡◌, ℕ, suc, ◌*◌, ◌^◌, ◌≤◌, ◌<◌, ◌⊎◌, List, [], length, codes, Option, Some, None}
use Rattle.eel_base.specs.Outside.{Rose, preceded, IsAtEnd, GaveSome, appended, TookPart}
use Rattle.elf32_sparc.specs.FileFault.{load_fault}
use Rattle.v8_step.specs.declared.Ending.{Ending}
use Rattle.v8_step.specs.State.{State}
use Rattle.v8_step.specs.Run.{run, run_puts}
use Rattle.v8_runner.specs.Made.{AreMade}
use Rattle.eel_said.specs.Outcome.{Outcome, Stopped, BadFile, TooLong, OutOfMemory, DeviceFault, Stream}
use Rattle.eel_said.specs.Shared.{Feed}
use Rattle.eel_reports.specs.Answers.Files.{IsNotLoaded}

-- ---- the input

abbrev pub input_limit : ℕ
input_limit = 64 * 2 ^ 20

abbrev pub standard_input : List ℕ
standard_input = codes "standard input"

-- all of it was read
pub record WasFed (old new : Feed) (input : List ℕ) : Type 0 where
  pub all : old.left ≡ preceded input new.left
  pub end : IsAtEnd new.left
  pub within : length input ≤ input_limit

-- Not all of it was read, and this comes of it. Of one that is too long a byte more than the limit was taken.
abbrev pub IsUnfed : Feed → Feed → Outcome → Type 0
IsUnfed old new (TooLong name limit) =
    (name ≡ standard_input) × (limit ≡ input_limit) × GaveSome (λ count. count ≡ suc input_limit) old.left new.left
IsUnfed old new OutOfMemory = new.faults ≡ old.faults
IsUnfed old new DeviceFault = Rose old.faults new.faults
IsUnfed old new _ = ⊥

-- ---- the program

-- FILE and the input were read, and the program isn't run
abbrev pub IsNotRun : List ℕ → List ℕ → Outcome → Type 0
IsNotRun name bytes (BadFile named code) = (named ≡ name) × IsNotLoaded code bytes
IsNotRun name bytes OutOfMemory = load_fault bytes ≡ None
IsNotRun name bytes _ = ⊥

-- the run stops at its limit, or with the first state that has ended
abbrev pub StopsAt : State → ℕ → ℕ → Type 0
StopsAt s0 limit steps = (steps ≡ limit) ⊎ ((steps ≤ limit) × ((ending : Ending) × ((run s0 steps).ending ≡ Some ending)))

-- The program ran from its start for so many steps. The streams took what those put out, and `text` stands after
-- that on the error stream.
pub record HasRun (s0 : State) (limit : ℕ) (ending : Option Ending) (steps : ℕ) (text : List ℕ) (old_out new_out old_err new_err : Stream) : Type 0 where
  pub made : AreMade s0 steps
  pub stops : StopsAt s0 limit steps
  pub ends : (run s0 steps).ending ≡ ending
  pub out : new_out.taken ≡ appended old_out.taken (run_puts s0 steps 1)
  pub err : new_err.taken ≡ appended (appended old_err.taken (run_puts s0 steps 2)) text

-- Its run was broken off in the step after these, in which a stream failed. The streams took a first part of what
-- that step and those before it put out.
pub record WasBroken (s0 : State) (limit : ℕ) (old_out new_out old_err new_err : Stream) : Type 0 where
  pub steps : ℕ
  pub within : steps < limit
  pub made : AreMade s0 (suc steps)
  pub out : TookPart old_out.taken new_out.taken (run_puts s0 (suc steps) 1)
  pub err : TookPart old_err.taken new_err.taken (run_puts s0 (suc steps) 2)
  pub failed : Rose old_out.faults new_out.faults ⊎ Rose old_err.faults new_err.faults

-- It was run, and this comes of it.
abbrev pub IsRun : State → ℕ → Stream → Stream → Stream → Stream → Outcome → Type 0
IsRun s0 limit old_out new_out old_err new_err (Stopped ending steps) =
    HasRun s0 limit ending steps [] old_out new_out old_err new_err
IsRun s0 limit old_out new_out old_err new_err DeviceFault = WasBroken s0 limit old_out new_out old_err new_err
IsRun s0 limit old_out new_out old_err new_err _ = ⊥

-- The laws of steps and runs.
use Rattle.std.specs.Prelude.{◌≡◌, ℕ, ◌^◌, ◌<◌, false, List}
use Rattle.v8_decode.specs.declared.Instr.{Instr}
use Rattle.v8_decode.specs.Effects.{reads_all}
use Rattle.v8_memory.specs.Regions.{Memory, code_of, fetch_of}
use Rattle.v8_step.specs.State.{State, AreBytes}
use Rattle.v8_step.specs.Step.{act, step_of}
use Rattle.v8_step.specs.Run.{run, first_state}
use Rattle.v8_step.specs.Valid.{IsValidMemory, IsValid}

-- No step changes a word that can be executed, and so no run does.
abbrev pub CodeStays : Type 0
CodeStays =
    ((s : State) → code_of (step_of s).memory ≡ code_of s.memory)
    × ((s : State) (n address : ℕ) → fetch_of (run s n).memory address ≡ fetch_of s.memory address)

-- A first state over valid memory is valid, a step keeps a valid state valid, and so does a run.
abbrev pub ValidStays : Type 0
ValidStays =
    ((m : Memory) (entry sp : ℕ) (input : List ℕ) → IsValidMemory m → entry < 2 ^ 32 → sp < 2 ^ 32
    → AreBytes input → IsValid (first_state m entry sp input))
    × ((s : State) → IsValid s → IsValid (step_of s))
    × ((s : State) (n : ℕ) → IsValid s → IsValid (run s n))

-- The window stays, but for SAVE and RESTORE, and for traps, which may save windows: these read every item.
abbrev pub WindowStays : Type 0
WindowStays = (s : State) (instr : Instr) → reads_all instr ≡ false → (act s instr).window ≡ s.window

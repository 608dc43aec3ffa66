-- SAVE and RESTORE (section B.20 of The SPARC Architecture Manual, Version 8), with what a system's handlers of
-- window_overflow and window_underflow do: they save the oldest window to its own stack, and load the window
-- after the current one. A frame that cannot be saved or loaded ends the run, here.
use Rattle.std.specs.Prelude.{ℕ, zero, suc, ◌+◌, ◌-◌, ◌%◌, List, Option, Some, None, ◌==◌, if◌then◌else◌}
use Rattle.v8_memory.specs.Regions.{Memory, bytes_at, with_bytes}
use Rattle.v8_windows.specs.Registers.{window_before, window_after}
use Rattle.v8_windows.specs.Frames.{frame_bytes, with_frame, oldest_of, frame_address, frame_pointer}
use Rattle.v8_step.specs.declared.Ending.TheVariants.{Window}
use Rattle.v8_step.specs.State.{State, register_of, with_register}
use Rattle.v8_step.specs.Transfers.{next, ended}
use Rattle.v8_step.specs.Accesses.{on_memory}

-- ---- frames lie at multiples of 8

abbrev pub frame_written : Memory → ℕ → List ℕ → Option Memory
frame_written m address bytes = if address % 8 == 0 then with_bytes m address bytes else None

abbrev pub frame_read : Memory → ℕ → Option (List ℕ)
frame_read m address = if address % 8 == 0 then bytes_at m address 64 else None

-- ---- the oldest window is saved

abbrev pub oldest_window : State → ℕ
oldest_window s = oldest_of s.window s.valid

abbrev pub save_address : State → ℕ
save_address s = frame_address s.registers (oldest_window s)

abbrev pub saved_memory : State → Option Memory
saved_memory s = frame_written s.memory (save_address s) (frame_bytes s.registers (oldest_window s))

-- saves the oldest window, which is then not valid, and goes on
abbrev pub spill : State → (State → State) → State
spill s go = on_memory s Window (saved_memory s) (λ t. go (record t { valid = t.valid - 1 }))

-- saves so many windows, the oldest first; each stops being valid at once
abbrev pub spill_many : ℕ → State → State
spill_many zero s = next s
spill_many (suc n) s = spill s (spill_many n)

-- ---- the window after the current one is loaded

abbrev pub fill_from : State → Option (List ℕ) → (State → State) → State
fill_from s None go = ended s Window
fill_from s (Some bytes) go =
    go (record s { registers = with_frame s.registers (window_after s.window) bytes; valid = 2 })

-- loads it from %fp, and goes on
abbrev pub fill : State → (State → State) → State
fill s go = fill_from s (frame_read s.memory (register_of s frame_pointer)) go

-- ---- moves: rd is a register of the new window

abbrev pub enter : ℕ → ℕ → State → State
enter rd value s =
    next (with_register (record s { window = window_before s.window; valid = s.valid + 1 }) rd value)

abbrev pub leave : ℕ → ℕ → State → State
leave rd value s =
    next (with_register (record s { window = window_after s.window; valid = s.valid - 1 }) rd value)

-- seven windows can be valid, and the eighth is never
unfoldable pub save_step : State → ℕ → ℕ → State
save_step s rd value = if s.valid == 7 then spill s (enter rd value) else enter rd value s

-- the current window is always valid
unfoldable pub restore_step : State → ℕ → ℕ → State
restore_step s rd value = if s.valid == 1 then fill s (leave rd value) else leave rd value s

-- Windows in memory: the sixteen words of a frame, a window's locals and ins, in the order in which the
-- stack has them (System V ABI, SPARC Processor Supplement, "The Stack Frame").
use Rattle.std.specs.Prelude.{ℕ, ◌+◌, ◌-◌, ◌%◌, List, [], ◌∷◌, take, drop, map}
use Rattle.std.specs.Int.{w32, to_be_bytes, from_be_bytes}
use Rattle.std.specs.List.{flat_map}
use Rattle.v8_windows.specs.Registers.{windows, register_in, register_set}

-- %l0 to %l7 and %i0 to %i7
abbrev pub frame_registers : List ℕ
frame_registers = 16 ∷ 17 ∷ 18 ∷ 19 ∷ 20 ∷ 21 ∷ 22 ∷ 23 ∷ 24 ∷ 25 ∷ 26 ∷ 27 ∷ 28 ∷ 29 ∷ 30 ∷ 31 ∷ []

abbrev pub frame_of : List ℕ → ℕ → List ℕ
frame_of registers window = map (register_in registers window) frame_registers

-- its 64 bytes, the highest byte of each word first
abbrev pub frame_bytes : List ℕ → ℕ → List ℕ
frame_bytes registers window = flat_map (to_be_bytes w32) (frame_of registers window)

-- registers of a window from bytes, four for each
abbrev pub registers_from : List ℕ → ℕ → List ℕ → List ℕ → List ℕ
registers_from registers window [] bytes = registers
registers_from registers window (r ∷ rs) bytes =
    registers_from (register_set registers window r (from_be_bytes w32 (take 4 bytes))) window rs (drop 4 bytes)

-- the registers with a window's frame loaded from its bytes
abbrev pub with_frame : List ℕ → ℕ → List ℕ → List ℕ
with_frame registers window bytes = registers_from registers window frame_registers bytes

-- The windows that are valid are the current one and those after it, `valid` in all; these windows' registers
-- are in the machine, and the others' in memory. The oldest is the last of them.
abbrev pub oldest_of : ℕ → ℕ → ℕ
oldest_of window valid = (window + valid - 1) % windows

-- %sp and %fp
abbrev pub stack_pointer : ℕ
stack_pointer = 14

abbrev pub frame_pointer : ℕ
frame_pointer = 30

-- a window's frame lies at its own %sp
abbrev pub frame_address : List ℕ → ℕ → ℕ
frame_address registers window = register_in registers window stack_pointer

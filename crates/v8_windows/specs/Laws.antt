-- The laws of registers and windows.
use Rattle.std.specs.Prelude.{◌≡◌, ◌≢◌, ℕ, ◌+◌, ◌<◌, ◌≤◌, List, length}
use Rattle.v8_windows.specs.Registers.{place_of, register_in, register_set, window_after, windows}
use Rattle.v8_windows.specs.Frames.{frame_bytes, frame_registers, with_frame}
use Rattle.v8_windows.specs.Calls.{frame_words, registers_of_words}

-- The ins of a window are the outs of the next one.
abbrev pub WindowsOverlap : Type 0
WindowsOverlap =
    (registers : List ℕ) (window r : ℕ) → window < windows → 8 ≤ r → r < 16
    → register_in registers window (r + 16) ≡ register_in registers (window_after window) r

-- A register but %g0 has what was written to it last, and a write changes no register at another place.
abbrev pub RegistersHold : Type 0
RegistersHold =
    ((registers : List ℕ) (window r value : ℕ) → length registers ≡ 136 → 0 < r
    → register_in (register_set registers window r value) window r ≡ value)
    × ((registers : List ℕ) (window r value other q : ℕ) → place_of window r ≢ place_of other q
    → register_in (register_set registers window r value) other q ≡ register_in registers other q)
    × ((registers : List ℕ) (window r value : ℕ)
    → length (register_set registers window r value) ≡ length registers)

-- A frame has 64 bytes, and loading one leaves the number of registers.
abbrev pub FramesFit : Type 0
FramesFit =
    ((registers : List ℕ) (window : ℕ) → length (frame_bytes registers window) ≡ 64)
    × ((registers : List ℕ) (window : ℕ) (bytes : List ℕ)
    → length (with_frame registers window bytes) ≡ length registers)

-- Loading a frame from its bytes is loading it from the words of these bytes.
abbrev pub FramesLoad : Type 0
FramesLoad =
    (registers : List ℕ) (window : ℕ) (bytes : List ℕ)
    → with_frame registers window bytes
    ≡ registers_of_words registers window frame_registers (frame_words 16 bytes)

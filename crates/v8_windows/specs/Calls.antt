-- What the calls of the windows answer, and what they leave.
use Rattle.std.specs.Prelude.{◌≡◌, ℕ, zero, suc, ◌+◌, ◌-◌, ◌*◌, ◌%◌, nat_lt, if◌then◌else◌, slice_index, List, [], ◌∷◌, map, replicate, take, drop, Result, OnOk, OnErr, Bool, MatchBool}
use Rattle.std.specs.List.{range_with_len}
use Rattle.std.specs.Int.{w32, from_be_bytes}
use Rattle.v8_windows.specs.Registers.{window_before, window_after, register_set}
use Rattle.v8_windows.specs.Frames.{frame_registers, frame_of, frame_address, oldest_of}

-- the registers, the current window, and how many windows are valid, from the current one on
pub record WindowState : Type 0 where
  pub registers : List ℕ
  pub window : ℕ
  pub valid : ℕ

-- zeros, and one window
abbrev pub no_windows : WindowState
no_windows = record { registers = replicate 136 0; window = 0; valid = 1 }

-- the window before is current, and one more is valid
abbrev pub entered : WindowState → WindowState
entered w = record w { window = window_before w.window; valid = suc w.valid }

-- the window after is current, and one fewer is valid
abbrev pub left : WindowState → WindowState
left w = record w { window = window_after w.window; valid = w.valid - 1 }

-- a move is made, or refused and then changes nothing
abbrev pub Moves : {A E : Type 0} → Bool → WindowState → WindowState → WindowState → Result A E → Type 0
Moves refused old moved new result =
    MatchBool refused (OnOk result ⊥ × (new ≡ old)) (OnErr result ⊥ × (new ≡ moved))

-- registers of a window from words, one for each
abbrev pub registers_of_words : List ℕ → ℕ → List ℕ → List ℕ → List ℕ
registers_of_words registers window [] words = registers
registers_of_words registers window (r ∷ rs) [] = registers
registers_of_words registers window (r ∷ rs) (word ∷ words) =
    registers_of_words (register_set registers window r word) window rs words

-- so many words of bytes, four for each, the highest byte first
abbrev pub frame_words : ℕ → List ℕ → List ℕ
frame_words zero bytes = []
frame_words (suc count) bytes = from_be_bytes w32 (take 4 bytes) ∷ frame_words count (drop 4 bytes)

-- the window after the current one is loaded from the words of its frame
abbrev pub filled_by : WindowState → List ℕ → WindowState
filled_by w words = record w {
  registers = registers_of_words w.registers (window_after w.window) frame_registers words;
  valid = 2;
}

-- where the oldest window is to be saved, and its words
abbrev pub oldest_address : WindowState → ℕ
oldest_address w = frame_address w.registers (oldest_of w.window w.valid)

abbrev pub oldest_words : WindowState → List ℕ
oldest_words w = frame_of w.registers (oldest_of w.window w.valid)

-- how far a place is behind that of a window's first out
abbrev pub after_outs : ℕ → ℕ → ℕ
after_outs window place = (place - 8 + 16 * (8 - window)) % 128

-- the register at a place, where those of a window are in `current`, as instructions name them
abbrev pub seen_at : List ℕ → List ℕ → ℕ → ℕ → ℕ
seen_at current others window place =
    if nat_lt place 8 then slice_index current place
    else if nat_lt (after_outs window place) 24 then slice_index current (8 + after_outs window place)
    else slice_index others place

-- all registers, where those of a window are in `current`
unfoldable pub registers_seen : List ℕ → List ℕ → ℕ → List ℕ
registers_seen current others window = map (seen_at current others window) (range_with_len 0 136)

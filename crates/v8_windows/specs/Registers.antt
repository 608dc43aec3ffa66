-- The r registers: eight globals, and eight windows that overlap (The SPARC Architecture Manual, Version 8,
-- section 4.1). A list of 136 numbers holds them: the globals, and then for each window its outs and locals.
-- The ins of a window are the outs of the next one.
use Rattle.std.specs.Prelude.{ℕ, zero, suc, ◌+◌, ◌-◌, ◌*◌, ◌%◌, List, nat_lt, if◌then◌else◌, slice_index, slice_set}

-- this machine has eight windows
abbrev pub windows : ℕ
windows = 8

-- SAVE goes to the window before, RESTORE to the one after (B.20)
abbrev pub window_before : ℕ → ℕ
window_before window = (window + 7) % windows

abbrev pub window_after : ℕ → ℕ
window_after window = (window + 1) % windows

-- where the list has register r of a window: r 8 to 15 are its outs, 16 to 23 its locals, 24 to 31 its ins
abbrev pub place_of : ℕ → ℕ → ℕ
place_of window r = if nat_lt r 8 then r else 8 + (16 * window + (r - 8)) % 128

-- %g0 reads as 0, and what is written to it is dropped
abbrev pub register_in : List ℕ → ℕ → ℕ → ℕ
register_in registers window zero = 0
register_in registers window (suc r) = slice_index registers (place_of window (suc r))

abbrev pub register_set : List ℕ → ℕ → ℕ → ℕ → List ℕ
register_set registers window zero value = registers
register_set registers window (suc r) value = slice_set registers (place_of window (suc r)) value

-- two registers, the second after the first (B.1)
abbrev pub pair_set : List ℕ → ℕ → ℕ → ℕ → ℕ → List ℕ
pair_set registers window r value next =
    register_set (register_set registers window r value) window (suc r) next

-- Registers of the current window to work in: dead ones first, so that as few as can be must be spilled. Sections are
-- those of The SPARC Architecture Manual, Version 8.
use Rattle.std.specs.Prelude.{ℕ, ◌-◌, Bool, not, ◌&&◌, List, length, filter}
use Rattle.std.specs.List.{range_with_len}
use Rattle.v8_decode.specs.declared.Part.{Part}
use Rattle.v8_decode.specs.declared.Part.TheVariants.{Reg}
use Rattle.v8_decode.specs.Parts.{has}

-- %g1 to %i7: %g0 holds nothing (section 4.1)
unfoldable pub registers : List ℕ
registers = range_with_len 1 31

-- the dead ones but those to avoid, and the others but those
abbrev pub is_free_dead : List Part → List Part → ℕ → Bool
is_free_dead dead avoid r = has dead (Reg r) && not (has avoid (Reg r))

abbrev pub free_dead : List Part → List Part → List ℕ
free_dead dead avoid = filter (is_free_dead dead avoid) registers

-- how many of these aren't dead
abbrev pub spills : List Part → List Part → ℕ → ℕ
spills dead avoid want = want - length (free_dead dead avoid)

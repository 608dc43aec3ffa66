-- A set of parts as a mask: bit r for register r, bit 32 for the codes, bit 33 for Y.
use Rattle.std.specs.Prelude.{ℕ, Bool, List, ◌==◌}
use Rattle.std.specs.Int.{bit_at}
use Rattle.v8_decode.specs.declared.Part.{Part}
use Rattle.v8_decode.specs.declared.Part.TheVariants.{Reg, Icc, Y}
use Rattle.v8_decode.specs.Parts.{members}

-- the bit of a part in a mask
abbrev pub place_of : Part → ℕ
place_of (Reg r) = r
place_of Icc = 32
place_of Y = 33

abbrev pub is_marked : ℕ → Part → Bool
is_marked mask p = bit_at mask (place_of p) == 1

-- the set that a mask stands for, and the mask of a set
abbrev pub parts_of : ℕ → List Part
parts_of mask = members (is_marked mask)

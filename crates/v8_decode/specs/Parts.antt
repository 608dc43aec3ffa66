-- Sets of parts: registers of the current window, the integer condition codes and Y (section 4.2).
use Rattle.std.specs.Prelude.{ℕ, zero, suc, Bool, true, false, ◌&&◌, ◌||◌, List, [], ◌∷◌, ◌++◌, filter, nat_lt, ◌==◌}
use Rattle.v8_decode.specs.declared.Part.{Part}
use Rattle.v8_decode.specs.declared.Part.TheVariants.{Reg, Icc, Y}

abbrev pub is_same : Part → Part → Bool
is_same (Reg a) (Reg b) = a == b
is_same Icc Icc = true
is_same Y Y = true
is_same _ _ = false

-- the parts that a set can have: the register %g0 holds nothing (section 4.1)
abbrev pub is_member : Part → Bool
is_member (Reg r) = nat_lt 0 r && nat_lt r 32
is_member Icc = true
is_member Y = true

-- whether a list has the part
abbrev pub has : List Part → Part → Bool
has [] p = false
has (q ∷ ps) p = is_same p q || has ps p

-- so many registers, from that with number `first` on
abbrev pub registers_from : ℕ → ℕ → List Part
registers_from first zero = []
registers_from first (suc count) = Reg first ∷ registers_from (suc first) count

-- these in order: %g1 to %i7, the codes, Y
unfoldable pub every_part : List Part
every_part = registers_from 1 31 ++ Icc ∷ Y ∷ []

-- the set of the parts that pass a test, each once and in order
unfoldable pub members : (Part → Bool) → List Part
members test = filter test every_part

-- the set of the parts of a list
abbrev pub set_of : List Part → List Part
set_of ps = members (has ps)

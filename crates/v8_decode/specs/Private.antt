-- What only contracts of private functions and models cite.
use Rattle.std.specs.Prelude.{Bool, true, nat_lt, ℕ, ◌+◌, ◌^◌, List, [], ◌∷◌}
use Rattle.v8_decode.specs.declared.Part.{Part}
use Rattle.v8_decode.specs.declared.Part.TheVariants.{Reg, Icc, Y}
use Rattle.v8_decode.specs.Masks.{place_of}

-- registers have numbers below 32
abbrev pub is_part : Part → Bool
is_part (Reg r) = nat_lt r 32
is_part Icc = true
is_part Y = true

abbrev pub mask_of : List Part → ℕ
mask_of [] = 0
mask_of (p ∷ ps) = 2 ^ place_of p + mask_of ps

-- Values of edges and of nodes, as lists of integers.
use Rattle.std.specs.Prelude.{ℕ, ◌+◌, List, [], ◌∷◌, slice_index_or, ℤ, pos, nat_abs}

-- the value at i, and 0 past the end
abbrev pub int_at : List ℤ → ℕ → ℤ
int_at xs i = slice_index_or xs i (pos 0)

-- the sum of the absolute values
abbrev pub abs_sum : List ℤ → ℕ
abs_sum [] = 0
abs_sum (z ∷ zs) = nat_abs z + abs_sum zs

-- Pieces while they are laid in the compact order.
use Rattle.std.specs.Prelude.{◌≡◌, ◌≢◌, ℕ, suc, ◌-◌, ◌<◌, ◌≤◌, Bool, true, false, nat_eq, List, length, slice_get, slice_index_or, Some, IfSome}
use Rattle.std.specs.List.{All, IsDistinct}
use Rattle.layout.specs.declared.items.Item.{Item}
use Rattle.layout.specs.Order.{exit_at, ends_in_jump, is_laid, lowest_left, first_laid}

-- each Jump that ends a piece leads to a piece
abbrev pub LeadsInside : List (List Item) → Type 0
LeadsInside pieces = (k : ℕ) → IfSome (exit_at pieces k) (λ to. to.0 < length pieces)

-- Pieces that are laid in the compact order, each once: what follows a piece that ends in no Jump isn't laid before it.
pub record IsLaying (pieces : List (List Item)) (laid : List ℕ) : Type 0 where
  pub inside : All (λ k. k < length pieces) laid
  pub falls : (k : ℕ) → ends_in_jump pieces k ≡ false → is_laid laid (suc k) ≡ true
      → (is_laid laid k ≡ true) × (slice_get laid (length laid - 1) ≢ Some k)
  pub distinct : IsDistinct nat_eq laid

-- the first pieces of the order, a mark for each that is laid, and a number below which all are laid
pub record IsMarking (pieces : List (List Item)) (laid : List ℕ) (marks : List Bool) (low : ℕ) : Type 0 where
  pub order : laid ≡ first_laid pieces (length laid)
  pub len : length marks ≡ length pieces
  pub shown : (k : ℕ) → k < length pieces → slice_index_or marks k false ≡ is_laid laid k
  pub within : low ≤ length pieces
  pub below : (k : ℕ) → k < low → is_laid laid k ≡ true

-- k is the lowest piece that isn't laid
pub record IsLowestLeft (pieces : List (List Item)) (laid : List ℕ) (k : ℕ) : Type 0 where
  pub value : k ≡ lowest_left pieces laid
  pub inside : k < length pieces
  pub free : is_laid laid k ≡ false
  pub below : (j : ℕ) → j < k → is_laid laid j ≡ true

-- each piece stands once in the order
pub record IsWhole (pieces : List (List Item)) (order : List ℕ) : Type 0 where
  pub laying : IsLaying pieces order
  pub len : length order ≡ length pieces
  pub once : (k : ℕ) → k < length pieces → is_laid order k ≡ true

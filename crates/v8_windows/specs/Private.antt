-- What only contracts of private functions and models cite.
use Rattle.std.specs.Prelude.{◌≡◌, ◌<◌, ◌≤◌, ℕ, ◌+◌, slice_index, List}

-- `count` words were copied to `at`, from `start` on
pub record IsCopied (at start count : ℕ) (words old new : List ℕ) : Type 0 where
  pub inside : (k : ℕ) → k < count → slice_index new (at + k) ≡ slice_index words (start + k)
  pub below : (k : ℕ) → k < at → slice_index new k ≡ slice_index old k
  pub above : (k : ℕ) → at + count ≤ k → slice_index new k ≡ slice_index old k

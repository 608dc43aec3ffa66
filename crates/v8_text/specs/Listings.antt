-- Listings: a line for each word of a text, in address order. A line is the word's address, one space, its text, and the
-- newline that ends it. Any bytes may be read as a listing: it is told of which words they are, or which line is the first
-- that isn't as it should be.
use Rattle.std.specs.Prelude.{◌≡◌, ◌≢◌, ℕ, ◌+◌, ◌*◌, ◌%◌, ◌^◌, ◌<◌, ◌≤◌, List, [], ◌∷◌, ◌++◌, length}
use Rattle.std.specs.List.{All}
use Rattle.v8_text.specs.Texts.{lines_from}

-- The bytes begin with the lines of these words, of which the first stands at the address `start`, a multiple of 4, and all
-- stand below 2^32; then comes the rest.
pub record AreListed (bytes : List ℕ) (start : ℕ) (words rest : List ℕ) : Type 0 where
  pub aligned : start % 4 ≡ 0
  pub below : start + 4 * length words ≤ 2 ^ 32
  pub fit : All (λ w. w < 2 ^ 32) words
  pub is : bytes ≡ lines_from start words ++ rest

-- the bytes are the listing of these words
abbrev pub IsListing : List ℕ → List ℕ → Type 0
IsListing bytes words = (start : ℕ) × AreListed bytes start words []

-- The first bad line has this number, counted from 1: before it are the lines of some words, and behind these comes
-- something, but no line of one word more.
pub record IsBadLine (bytes : List ℕ) (number : ℕ) : Type 0 where
  pub start : ℕ
  pub words : List ℕ
  pub rest : List ℕ
  pub listed : AreListed bytes start words rest
  pub number_is : number ≡ length words + 1
  pub some : rest ≢ []
  pub bad : (from w : ℕ) (after : List ℕ) → ¬ AreListed bytes from (words ++ w ∷ []) after

-- What contracts of this crate's code and laws cite beyond the statement.
use Rattle.std.specs.Prelude.{ℕ, ◌*◌, pos, ◌-ℤ◌, ◌≡◌, true, Some, ◌≤◌, length, List, [], ◌∷◌, Bool}
use Rattle.std.specs.Int.{w32, to_be_bytes}
use Rattle.v8_decode.specs.declared.Op2.{Op2}
use Rattle.v8_decode.specs.declared.Op2.TheVariants.{Imm}
use Rattle.v8_memory.specs.Regions.{Memory, all_written, Region, region_at}
use Rattle.v8_memory.specs.Spans.{Span}
use Rattle.code_runs.specs.Counted.{any_byte}

-- the operand by which a load or a store from %g0 reaches word n
abbrev pub of_page : ℕ → Op2
of_page n = Imm (pos (4 * n) -ℤ pos 4096)

-- memory after a word was stored
unfoldable pub store_word : Memory → ℕ → ℕ → Memory
store_word m a v = all_written a (to_be_bytes w32 v) m

-- one region has the word, and it may be read
pub record CanLoad (m : Memory) (a : ℕ) : Type 0 where
  pub region : Region
  pub at : region_at m a 4 ≡ Some region
  pub readable : region.readable ≡ true

-- one region has the word, and it may be read and written
pub record CanStore (m : Memory) (a : ℕ) : Type 0 where
  pub region : Region
  pub at : region_at m a 4 ≡ Some region
  pub readable : region.readable ≡ true
  pub writable : region.writable ≡ true
  pub whole : region.size ≤ length region.bytes

-- memory after words were stored, the first pair first
abbrev pub store_all : List (ℕ × ℕ) → Memory → Memory
store_all [] m = m
store_all (w ∷ ws) m = store_all ws (store_word m w.0 w.1)

abbrev pub AllAt : (ℕ → Type 0) → List (ℕ × ℕ) → Type 0
AllAt May [] = Unit {0}
AllAt May (w ∷ ws) = May w.0 × AllAt May ws

-- n is m after words were stored at such addresses
pub record Stores (May : ℕ → Type 0) (m n : Memory) : Type 0 where
  pub writes : List (ℕ × ℕ)
  pub each : AllAt May writes
  pub result : n ≡ store_all writes m

-- the bytes of a word
abbrev pub word_span : ℕ → Span
word_span address = record { from = address; count = 4 }

abbrev pub any_of_word : (ℕ → Bool) → ℕ → Bool
any_of_word counted address = any_byte counted (word_span address)

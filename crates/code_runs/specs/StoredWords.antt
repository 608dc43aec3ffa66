-- Words of memory that code of the editor's loads and stores.
use Rattle.std.specs.Prelude.{ℕ, Option, Some, None}
use Rattle.std.specs.Int.{w32, from_be_bytes}
use Rattle.v8_memory.specs.Regions.{Memory, Region, region_at, part_of}

abbrev pub word_in : ℕ → Option Region → ℕ
word_in a None = 0
word_in a (Some r) = from_be_bytes w32 (part_of r a 4)

-- the word at an address
unfoldable pub memory_word : Memory → ℕ → ℕ
memory_word m a = word_in a (region_at m a 4)

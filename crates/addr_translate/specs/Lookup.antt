-- A table of addresses with three levels of blocks, each of 1,024 words of 32 bits, the highest byte first. The
-- entries of the first two levels are addresses of blocks of the next; those of the third are the addresses found.
use Rattle.std.specs.Prelude.{◌≡◌, ℕ, ◌+◌, ◌-◌, ◌*◌, ◌/◌, ◌%◌, ◌^◌, ◌<◌, ◌≤◌, List, length, take, drop}
use Rattle.std.specs.Int.{w32, from_be_bytes}

-- the bytes of a table, and the address at which they stand
pub record TableAt : Type 0 where
  pub base : ℕ
  pub bytes : List ℕ

-- its word at an address
unfoldable pub table_word : TableAt → ℕ → ℕ
table_word t address = from_be_bytes w32 (take 4 (drop (address - t.base) t.bytes))

-- where the entry for an address stands in a block of each level: by its bits 31 to 22, 21 to 12, and 11 to 2
abbrev pub first_entry : ℕ → ℕ → ℕ
first_entry block a = block + 4 * (a / 2 ^ 22)

abbrev pub second_entry : ℕ → ℕ → ℕ
second_entry block a = block + 4 * (a / 2 ^ 12 % 2 ^ 10)

abbrev pub third_entry : ℕ → ℕ → ℕ
third_entry block a = block + 4 * (a / 2 ^ 2 % 2 ^ 10)

-- the blocks of the second and of the third level for an address; the first level is the block at the base
abbrev pub second_block : TableAt → ℕ → ℕ
second_block t a = table_word t (first_entry t.base a)

abbrev pub third_block : TableAt → ℕ → ℕ
third_block t a = table_word t (second_entry (second_block t a) a)

-- what the table has for an address
abbrev pub looked_up : TableAt → ℕ → ℕ
looked_up t a = table_word t (third_entry (third_block t a) a)

-- an address is that of a block of the table
pub record IsBlock (t : TableAt) (block : ℕ) : Type 0 where
  pub from : t.base ≤ block
  pub to : block + 4096 ≤ t.base + length t.bytes
  pub aligned : block % 4096 ≡ 0

-- every entry of the first two levels leads to a block of the table
pub record IsTable (t : TableAt) : Type 0 where
  pub aligned : t.base % 4096 ≡ 0
  pub below : t.base + length t.bytes ≤ 2 ^ 31
  pub first : 4096 ≤ length t.bytes
  pub second : (a : ℕ) → a < 2 ^ 32 → IsBlock t (second_block t a)
  pub third : (a : ℕ) → a < 2 ^ 32 → IsBlock t (third_block t a)

-- The table of a text: its size, and what it has for each address.
use Rattle.std.specs.Prelude.{◌≡◌, ℕ, ◌+◌, ◌-◌, ◌*◌, ◌/◌, ◌%◌, ◌^◌, ◌<◌, List, length, map, slice_index, Option, Some, None}
use Rattle.eel_base.specs.CodeText.{Words, address_of, word_at}
use Rattle.eel_base.specs.declared.numbers.Addr.{Addr}
use Rattle.addr_translate.specs.Lookup.{TableAt, IsTable, looked_up}

-- ---- the parts of 4 MiB and the pages of 4 KiB of the address space that hold bytes of the text: the number of the
-- first, and how many there are

abbrev pub last_byte : Words → ℕ
last_byte t = address_of t (length t.words) - 1

abbrev pub first_part : Words → ℕ
first_part t = t.start / 2 ^ 22

abbrev pub parts : Words → ℕ
parts t = last_byte t / 2 ^ 22 - first_part t + 1

abbrev pub first_page : Words → ℕ
first_page t = t.start / 2 ^ 12

abbrev pub pages : Words → ℕ
pages t = last_byte t / 2 ^ 12 - first_page t + 1

-- The blocks of the table: the first level; one of the second and one of the third for all that holds no text; one of
-- the second for each part that does, and one of the third for each page.
abbrev pub blocks : Words → ℕ
blocks t = 3 + parts t + pages t

abbrev pub size_of : Words → ℕ
size_of t = 4096 * blocks t

-- ---- what is found

abbrev pub target_of : List Addr → Addr → Option ℕ → ℕ
target_of targets foreign None = foreign.0
target_of targets foreign (Some word) = slice_index (map (λ (a : Addr). a.0) targets) word

-- An address of a word of the text, its low two bits ignored, leads to the word's target, and any other to `foreign`.
abbrev pub target_for : Words → List Addr → Addr → ℕ → ℕ
target_for t targets foreign a = target_of targets foreign (word_at t (a - a % 4))

-- The table of a text has its size, its entries lead to blocks of its own, and it finds each of the 2^32 addresses.
pub record IsTableOf (t : Words) (targets : List Addr) (foreign : Addr) (table : TableAt) : Type 0 where
  pub size : length table.bytes ≡ size_of t
  pub whole : IsTable table
  pub finds : (a : ℕ) → a < 2 ^ 32 → looked_up table a ≡ target_for t targets foreign a

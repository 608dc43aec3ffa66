-- How a table is laid out. Only private functions speak of this: what a table finds is said in Table.
use Rattle.std.specs.Prelude.{ℕ, ◌+◌, ◌-◌, ◌*◌, ◌/◌, ◌%◌, ◌&&◌, nat_le, nat_lt, ◌==◌, if◌then◌else◌, List, map, Bool}
use Rattle.std.specs.Int.{w32, to_be_bytes}
use Rattle.std.specs.List.{flat_map, range_with_len}
use Rattle.eel_base.specs.CodeText.{Words, word_at}
use Rattle.eel_base.specs.declared.numbers.Addr.{Addr}
use Rattle.addr_translate.specs.Table.{blocks, first_page, first_part, pages, parts, target_of}

-- a number is one of so many from the first on
abbrev pub is_among : ℕ → ℕ → ℕ → Bool
is_among first count n = nat_le first n && nat_lt n (first + count)

-- the number of the block of the second level for a part, and of the third level for a page
abbrev pub second_for : Words → ℕ → ℕ
second_for t part = if is_among (first_part t) (parts t) part then 3 + (part - first_part t) else 1

abbrev pub third_for : Words → ℕ → ℕ
third_for t page = if is_among (first_page t) (pages t) page then 3 + parts t + (page - first_page t) else 2

module _ (t : Words) (targets : List Addr) (foreign : Addr) (base : ℕ) where
  -- the word at a place of a block
  abbrev pub entry_in : ℕ → ℕ → ℕ
  entry_in block place =
      if block == 0 then base + 4096 * second_for t place else
      if block == 1 then base + 4096 * 2 else
      if block == 2 then foreign.0 else
      if nat_lt block (3 + parts t) then base + 4096 * third_for t (1024 * (first_part t + (block - 3)) + place) else
      target_of targets foreign (word_at t (4096 * (first_page t + (block - 3 - parts t)) + 4 * place))

  -- the words of a table in order, and its bytes
  unfoldable pub entry : ℕ → ℕ
  entry n = entry_in (n / 1024) (n % 1024)

  unfoldable pub table_words : List ℕ
  table_words = map entry (range_with_len 0 (1024 * blocks t))

  unfoldable pub table_bytes : List ℕ
  table_bytes = flat_map (to_be_bytes w32) table_words

-- A second table, with two levels. The first has a word for each high half of an address: what is to be added to the
-- address, modulo 2^32, so that the entry's own address comes out. So nothing of the address is masked, and the entry's
-- address is a multiple of 4 where the address is.
use Rattle.std.specs.Prelude.{◌≡◌, ℕ, ◌+◌, ◌-◌, ◌*◌, ◌/◌, ◌%◌, ◌^◌, ◌<◌, ◌≤◌, List, length}
use Rattle.eel_base.specs.CodeText.{Words}
use Rattle.eel_base.specs.declared.numbers.Addr.{Addr}
use Rattle.v8_alu.specs.Numbers.{wrapped}
use Rattle.addr_translate.specs.Lookup.{TableAt, table_word}
use Rattle.addr_translate.specs.Table.{last_byte, target_for}

-- where the word for the high half of an address stands, and where the entry for the address does
abbrev pub half_at : TableAt → ℕ → ℕ
half_at t a = t.base + 4 * (a / 2 ^ 16)

abbrev pub entry_at : TableAt → ℕ → ℕ
entry_at t a = wrapped (table_word t (half_at t a) + a)

-- what the table has for an address
abbrev pub found_in : TableAt → ℕ → ℕ
found_in t a = table_word t (entry_at t a)

-- an address is that of a word of the table
pub record IsWordOf (t : TableAt) (z : ℕ) : Type 0 where
  pub from : t.base ≤ z
  pub to : z + 4 ≤ t.base + length t.bytes
  pub aligned : z % 4 ≡ 0

-- every high half has its word, and every aligned address its entry
pub record IsTwoLevel (t : TableAt) : Type 0 where
  pub aligned : t.base % 4096 ≡ 0
  pub below : t.base + length t.bytes ≤ 2 ^ 31
  pub first : 2 ^ 18 ≤ length t.bytes
  pub entries : (a : ℕ) → a < 2 ^ 32 → a % 4 ≡ 0 → IsWordOf t (entry_at t a)

-- ---- its size

-- the parts of 64 KiB that hold bytes of the text: the number of the first, and how many there are
abbrev pub first_half : Words → ℕ
first_half t = t.start / 2 ^ 16

-- from the begin of the first of them to the end of the text's last page of 4 KiB
abbrev pub span_of : Words → ℕ
span_of t = 2 ^ 12 * (last_byte t / 2 ^ 12 + 1) - 2 ^ 16 * first_half t

-- The words of the first level; an entry for each word of that span, one after the other; and entries of 64 KiB for all
-- that holds no text.
abbrev pub halves_size : Words → ℕ
halves_size t = 2 ^ 18 + span_of t + 2 ^ 16

-- The table of a text has its size, and finds each of the aligned addresses.
pub record IsHalvesOf (t : Words) (targets : List Addr) (foreign : Addr) (table : TableAt) : Type 0 where
  pub size : length table.bytes ≡ halves_size t
  pub whole : IsTwoLevel table
  pub finds : (a : ℕ) → a < 2 ^ 32 → a % 4 ≡ 0 → found_in table a ≡ target_for t targets foreign a

-- How a table of two levels is laid out.
use Rattle.std.specs.Prelude.{ℕ, ◌+◌, ◌-◌, ◌*◌, ◌/◌, ◌%◌, ◌^◌, nat_lt, if◌then◌else◌, List, map}
use Rattle.std.specs.Int.{w32, to_be_bytes}
use Rattle.std.specs.List.{flat_map, range_with_len}
use Rattle.eel_base.specs.CodeText.{Words, word_at}
use Rattle.eel_base.specs.declared.numbers.Addr.{Addr}
use Rattle.addr_translate.specs.Table.{target_of}
use Rattle.addr_translate.specs.Entries.{is_among}
use Rattle.addr_translate.specs.Halves.{first_half, halves_size, span_of}
use Rattle.addr_translate.specs.Private.{halves}

-- The entries stand behind the first level. A part that holds text has its own, as the text has its words; each other
-- part has those behind the text.
abbrev pub half_word : Words → ℕ → ℕ → ℕ
half_word t base half =
    if is_among (first_half t) (halves t) half then (base + 2 ^ 18 + 2 ^ 32 - 2 ^ 16 * first_half t) % 2 ^ 32
    else (base + 2 ^ 18 + span_of t + 2 ^ 32 - 2 ^ 16 * half) % 2 ^ 32

module _ (t : Words) (targets : List Addr) (foreign : Addr) (base : ℕ) where
  -- the words in order, and the bytes
  unfoldable pub half_entry : ℕ → ℕ
  half_entry n =
      if nat_lt n (2 ^ 16) then half_word t base n else
      target_of targets foreign (word_at t (2 ^ 16 * first_half t + 4 * (n - 2 ^ 16)))

  unfoldable pub half_words : List ℕ
  half_words = map half_entry (range_with_len 0 (halves_size t / 4))

  unfoldable pub half_bytes : List ℕ
  half_bytes = flat_map (to_be_bytes w32) half_words

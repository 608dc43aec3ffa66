-- The text of a program: its words and where they begin.
use Rattle.std.specs.Prelude.{ℕ, ◌+◌, ◌-◌, ◌*◌, ◌/◌, ◌%◌, ◌^◌, ◌&&◌, ◌==◌, nat_le, nat_lt, if◌then◌else◌, List, length, Option, Some, None, ℤ}
use Rattle.std.specs.Int.{w32, cast_unsigned}
use Rattle.eel_base.specs.declared.numbers.WordNo.{WordNo}

pub record Words : Type 0 where
  pub start : ℕ
  pub words : List ℕ

-- the address of the word of that number, and of the end
abbrev pub address_of : Words → ℕ → ℕ
address_of t word = t.start + 4 * word

-- the number of the word at an address, where it is that of a word
abbrev pub word_at : Words → ℕ → Option ℕ
word_at t address =
    if nat_le t.start address && ((address - t.start) % 4 == 0)
    && nat_lt ((address - t.start) / 4) (length t.words)
    then Some ((address - t.start) / 4) else None

-- the word to which a displacement leads, which counts words
abbrev pub target_of : Words → ℕ → ℤ → Option ℕ
target_of t word displacement = word_at t ((address_of t word + 4 * cast_unsigned w32 displacement) % 2 ^ 32)

abbrev pub numbered : Option ℕ → Option WordNo
numbered None = None
numbered (Some word) = Some (record { 0 = word })

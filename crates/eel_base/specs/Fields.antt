-- Fields of bytes, the highest byte first, as ELF32 files for SPARC have them (System V ABI, SPARC
-- Processor Supplement, "Machine Information": ELFDATA2MSB), and words in print.
use Rattle.std.specs.Prelude.{ℕ, ◌+◌, ◌*◌, ◌/◌, ◌%◌, ◌^◌, nat_le, nat_lt, if◌then◌else◌, List, [], ◌∷◌, length, drop, Option, Some, None}
use Rattle.byteorder.specs.Endian.{big_number}

-- the number of `size` bytes at `at`, where the bytes reach so far
abbrev pub be_field : ℕ → List ℕ → ℕ → Option ℕ
be_field size bytes at = if nat_le (at + size) (length bytes) then Some (big_number size (drop at bytes)) else None

-- a number below 16 as a digit: 0 to 9, then a to f
abbrev pub hex_digit : ℕ → ℕ
hex_digit n = if nat_lt n 10 then 48 + n else 87 + n

-- the digit at a place, counted from the lowest
abbrev pub hex_digit_at : ℕ → ℕ → ℕ
hex_digit_at n place = hex_digit (n / 2 ^ (4 * place) % 16)

-- a word as eight digits
abbrev pub hex_of : ℕ → List ℕ
hex_of n = hex_digit_at n 7 ∷ hex_digit_at n 6 ∷ hex_digit_at n 5 ∷ hex_digit_at n 4 ∷ hex_digit_at n 3 ∷ hex_digit_at n 2 ∷ hex_digit_at n 1 ∷ hex_digit_at n 0 ∷ []

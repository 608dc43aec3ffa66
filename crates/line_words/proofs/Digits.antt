-- Hexadecimal digits.
use Rattle.std.proofs.Common.{◌≡◌, ℕ, ◌+◌, ◌*◌, ◌%◌, ◌^◌, ◌<◌, List, [], ◌∷◌, Some, refl, arith}
use Rattle.std.specs.Str.{bytes_eq}
use Rattle.std.proofs.lemmas.Bool.Decides.{nat_tests}
use Rattle.std.proofs.lemmas.Slice.Eq.{bytes_eq-Decides}
use Rattle.eel_base.specs.Fields.{hex_digit, hex_of}
use Rattle.line_words.specs.Registers.{digit_of, hex_number_of, hex_value}
use Rattle.line_words.proofs.Steps.{tested}

digit_back : (n : ℕ) → digit_of (hex_digit n) ≡ n
digit_back n = grind (arith, nat_tests)

value_back : (n : ℕ) → n < 2 ^ 32 → hex_value 0 (hex_of n) ≡ n
value_back n fits = simp digit_back (omega arith)

-- what is written is read
pub address_back : (n : ℕ) → n < 2 ^ 32 → hex_number_of (hex_of n) ≡ Some n
unfolding hex_number_of
address_back n fits = rw (value_back n fits, (bytes_eq-Decides (hex_of n) (hex_of n)).1 refl) refl

value_below : (high : ℕ) (word : List ℕ) → high < 2 ^ 32 → hex_value high word < 2 ^ 32
value_below high [] low = low
value_below high (byte ∷ bytes) low = value_below ((high * 16 + digit_of byte) % 2 ^ 32) bytes (omega arith)

-- and nothing else is
pub address_read : (word : List ℕ) (n : ℕ) → hex_number_of word ≡ Some n → (word ≡ hex_of n) × (n < 2 ^ 32)
unfolding hex_number_of
address_read word n h =
    let found = tested (bytes_eq word (hex_of (hex_value 0 word))) (hex_value 0 word) n h in
    rw (← found.1) ((bytes_eq-Decides word (hex_of (hex_value 0 word))).0 found.0, value_below 0 word (omega arith))

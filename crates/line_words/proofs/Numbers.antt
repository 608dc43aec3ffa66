-- Decimal numbers.
use Rattle.std.proofs.Common.{◌≡◌, ℕ, ◌<◌, ◌≤◌, ◌^◌, ◌==◌, ◌&&◌, ◌||◌, not, true, nat_lt, List, length, slice_index, Some, Result, Ok, Err, decimal, refl, ap, sym, arith, rules}
use Rattle.std.specs.List.{list_all}
use Rattle.std.specs.Result.{result_ok}
use Rattle.std.specs.Str.{IsUtf8}
use Rattle.std.specs.Str.Parse.{digits_value, ParsesUnsigned}
use Rattle.std.proofs.lemmas.Bool.{and_parts, lt-ltb, ltb-true, false_from_ne_true}
use Rattle.std.proofs.lemmas.Bool.Decides.{nat_tests}
use Rattle.std.proofs.lemmas.Str.{IsUtf8-from_ascii}
use Rattle.std.proofs.lemmas.Str.Parse.{IsNumeralModel, numerals_by_value, parse_digits}
use Rattle.std.proofs.lemmas.Fmt.{decimal_digit, decimal_is_IsNumeral_wide, IsAscii-from_digits}
use Rattle.line_words.specs.Words.{count_of, is_digit, is_decimal, number_below, number_of, sum_of}
use Rattle.line_words.proofs.Written.{digits_written, first_digit}
use Rattle.line_words.proofs.Steps.{tested}

-- these digits and their value are the decimal numerals
pub own : IsNumeralModel (λ ds. list_all is_digit ds ≡ true) (digits_value 10)
own = numerals_by_value _ (search rules)

-- The parts of being decimal.
pub record Decimal (word : List ℕ) : Type 0 where
  pub digits : list_all is_digit word ≡ true
  pub some : 0 < length word
  pub front : (not (slice_index word 0 == 48) || (length word == 1)) ≡ true

pub decimal_parts : (word : List ℕ) → is_decimal word ≡ true → Decimal word
decimal_parts word h =
    let outer = and_parts (list_all is_digit word && nat_lt 0 (length word)) _ h in
    let inner = and_parts (list_all is_digit word) _ outer.0 in
    record { digits = inner.0; some = ltb-true _ _ inner.1; front = outer.1 }

pub decimal_utf8 : (word : List ℕ) → is_decimal word ≡ true → IsUtf8 word
decimal_utf8 word h = IsUtf8-from_ascii word (IsAscii-from_digits word (own.to word (decimal_parts word h).digits))

-- what parsing gives
module _ {E : Type 0} (bits : ℕ) (word : List ℕ) where
  pub number-parsed : (r : Result ℕ E) → ParsesUnsigned bits 10 word r → is_decimal word ≡ true
      → result_ok r ≡ number_below (2 ^ bits) word
  number-parsed (Ok n) parsed h =
      let (fits, value) = parse_digits own {E = E} bits word (Ok n) parsed (decimal_parts word h).digits in
      rw (h, lt-ltb (digits_value 10 word) (2 ^ bits) fits.1) (ap Some value)
  number-parsed (Err e) parsed h =
      let parts = decimal_parts word h in
      let refused = parse_digits own {E = E} bits word (Err e) parsed parts.digits in
      rw (h, false_from_ne_true _ (λ below. refused (parts.some, ltb-true (digits_value 10 word) (2 ^ bits) below))) refl

-- ---- what is written is read

front_right : (n : ℕ) → n < 10 ^ 64 → (not (slice_index (decimal n) 0 == 48) || (length (decimal n) == 1)) ≡ true
front_right n small = grind (arith, nat_tests, first_digit n small, decimal_digit 0)

below_back : (limit : ℕ) → limit ≤ 10 ^ 64 → (n : ℕ) → n < limit → number_below limit (decimal n) ≡ Some n
below_back limit low n fits =
    let small : n < 10 ^ 64 = omega arith in
    let numeral = decimal_is_IsNumeral_wide n small in
    let digits = own.from (decimal n) numeral.0.1 in
    rw (digits, lt-ltb 0 (length (decimal n)) numeral.0.0, front_right n small, numeral.1, lt-ltb n limit fits) refl

-- numbers that are written are read
pub number_back : (n : ℕ) → n < 2 ^ 32 → number_of (decimal n) ≡ Some n
unfolding number_of
number_back = below_back (2 ^ 32) (omega arith)

pub count_back : (n : ℕ) → n < 2 ^ 64 → count_of (decimal n) ≡ Some n
unfolding count_of
count_back = below_back (2 ^ 64) (omega arith)

pub sum_back : (n : ℕ) → n < 2 ^ 128 → sum_of (decimal n) ≡ Some n
unfolding sum_of
sum_back = below_back (2 ^ 128) (omega arith)

-- ---- and nothing else is

below_read : (limit : ℕ) → limit ≤ 10 ^ 64 → (word : List ℕ) (n : ℕ) → number_below limit word ≡ Some n
    → (word ≡ decimal n) × (n < limit)
below_read limit low word n h =
    let found = tested (is_decimal word && nat_lt (digits_value 10 word) limit) (digits_value 10 word) n h in
    let tests = and_parts (is_decimal word) _ found.0 in
    let parts = decimal_parts word tests.0 in
    let fits = ltb-true (digits_value 10 word) limit tests.1 in
    let front = parts.front in
    let text = digits_written word (own.to word parts.digits) parts.some (grind (arith, nat_tests)) (omega arith) in
    rw (← found.1) (sym text, fits)

pub number_read : (word : List ℕ) (n : ℕ) → number_of word ≡ Some n → (word ≡ decimal n) × (n < 2 ^ 32)
unfolding number_of
number_read = below_read (2 ^ 32) (omega arith)

pub count_read : (word : List ℕ) (n : ℕ) → count_of word ≡ Some n → (word ≡ decimal n) × (n < 2 ^ 64)
unfolding count_of
count_read = below_read (2 ^ 64) (omega arith)

pub sum_read : (word : List ℕ) (n : ℕ) → sum_of word ≡ Some n → (word ≡ decimal n) × (n < 2 ^ 128)
unfolding sum_of
sum_read = below_read (2 ^ 128) (omega arith)

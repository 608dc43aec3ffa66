-- Decimal digits are the number that they can be parsed as.
use Rattle.std.proofs.Common.{◌≡◌, ℕ, ◌+◌, ◌-◌, ◌*◌, ◌^◌, ◌≤◌, true, if◌then◌else◌, nat_lt, List, length, Some, None, Result, Ok, Err, refl, sym, ap, ◌∙◌, rules}
use Rattle.std.specs.List.{fold, list_all}
use Rattle.std.specs.Result.{result_ok}
use Rattle.std.specs.Str.Parse.{ParsesUnsigned}
use Rattle.std.proofs.lemmas.Bool.{le-leb, lt-ltb, ltb-true, false_from_ne_true}
use Rattle.std.proofs.lemmas.Str.Parse.{IsNumeralModel, numerals_by_fold, parse_digits}
use Rattle.eel_said.specs.Command.{is_digit, value_of, number_within}

-- the grammar's digits and their value are the decimal numerals
decimals : IsNumeralModel (λ ds. list_all is_digit ds ≡ true) value_of
decimals = numerals_by_fold _ (search rules)
    (λ n ds. fold (λ number digit. 10 * number + (digit - 48)) n ds) (search rules)

-- digits that are few enough are a number where their value is below 2^bits
within-digits : (long bits : ℕ) (bs : List ℕ) → list_all is_digit bs ≡ true → 1 ≤ length bs → length bs ≤ long
    → number_within long bits bs ≡ (if nat_lt (value_of bs) (2 ^ bits) then Some (value_of bs) else None)
within-digits long bits bs digits some most = rw (le-leb _ _ some, le-leb _ _ most, digits) refl

-- that is where they can be parsed
pub within-parsed : (long bits : ℕ) (E : Type 0) (bs : List ℕ) (r : Result ℕ E) → ParsesUnsigned bits 10 bs r
    → list_all is_digit bs ≡ true → 1 ≤ length bs → length bs ≤ long → result_ok r ≡ number_within long bits bs
within-parsed long bits E bs (Ok n) parsed digits some most =
    let (fits, value) = parse_digits decimals {E = E} bits bs (Ok n) parsed digits in
    ap Some value ∙ sym (within-digits long bits bs digits some most ∙ rw (lt-ltb _ _ fits.1) refl)
within-parsed long bits E bs (Err e) parsed digits some most =
    let refused = parse_digits decimals {E = E} bits bs (Err e) parsed digits in
    let over = false_from_ne_true _ (λ below. refused (some, ltb-true (value_of bs) (2 ^ bits) below)) in
    sym (within-digits long bits bs digits some most ∙ rw over refl)

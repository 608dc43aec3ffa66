-- The words of lines of text: numbers, the names of registers, and what stands before and behind a byte.
use Rattle.std.specs.Prelude.{ℕ, ◌+◌, ◌^◌, Bool, ◌&&◌, ◌||◌, ◌==◌, not, nat_le, nat_lt, if◌then◌else◌, List, length, take, drop, slice_index, Option, Some, None}
use Rattle.std.specs.List.{position, find, list_all, range_with_len}
use Rattle.std.specs.Option.{option_map, option_and_then}
use Rattle.std.specs.Str.{bytes_eq}
use Rattle.std.specs.Str.Parse.{digits_value}
use Rattle.line_words.specs.Registers.{register_text}

infixl 10 ◌>>=◌
abbrev pub ◌>>=◌ : {A B : Type 0} → Option A → (A → Option B) → Option B
o >>= f = option_and_then f o

-- the bytes before the first of this kind, and those after it
unfoldable pub split_at : ℕ → List ℕ → Option (List ℕ × List ℕ)
split_at mark bytes = option_map (λ end. (take end bytes, drop (end + 1) bytes)) (position (λ byte. byte == mark) bytes)

-- ---- numbers

abbrev pub is_digit : ℕ → Bool
is_digit byte = nat_le 48 byte && nat_le byte 57

-- digits, without a needless zero in front
abbrev pub is_decimal : List ℕ → Bool
is_decimal word =
    list_all is_digit word && nat_lt 0 (length word) && (not (slice_index word 0 == 48) || (length word == 1))

-- a decimal number below a limit
abbrev pub number_below : ℕ → List ℕ → Option ℕ
number_below limit word =
    if is_decimal word && nat_lt (digits_value 10 word) limit then Some (digits_value 10 word) else None

-- numbers of 32 bits, of 64, as counts have, and of 128, as sums of counts have
unfoldable pub number_of : List ℕ → Option ℕ
number_of word = number_below (2 ^ 32) word

unfoldable pub count_of : List ℕ → Option ℕ
count_of word = number_below (2 ^ 64) word

unfoldable pub sum_of : List ℕ → Option ℕ
sum_of word = number_below (2 ^ 128) word

-- ---- registers

unfoldable pub register_of : List ℕ → Option ℕ
register_of word = find (λ reg. bytes_eq word (register_text reg)) (range_with_len 0 32)

-- How registers and hexadecimal digits are written.
use Rattle.std.specs.Prelude.{ℕ, ◌-◌, nat_lt, if◌then◌else◌, ◌+◌, ◌*◌, ◌%◌, ◌^◌, List, [], ◌∷◌, Option, Some, None, ◌/◌, slice_index, codes}
use Rattle.std.specs.Str.{bytes_eq}
use Rattle.eel_base.specs.Fields.{hex_of}

-- what a hexadecimal digit counts: 0 to 9, then a to f
abbrev pub digit_of : ℕ → ℕ
digit_of byte = if nat_lt byte 97 then byte - 48 else byte - 87

-- the value of hexadecimal digits, the highest first, behind those that were read so far
abbrev pub hex_value : ℕ → List ℕ → ℕ
hex_value high [] = high
hex_value high (byte ∷ bytes) = hex_value ((high * 16 + digit_of byte) % 2 ^ 32) bytes

-- eight hexadecimal digits in small letters
unfoldable pub hex_number_of : List ℕ → Option ℕ
hex_number_of word = if bytes_eq word (hex_of (hex_value 0 word)) then Some (hex_value 0 word) else None

-- `%`, the register's bank, and its number in the bank
abbrev pub register_text : ℕ → List ℕ
register_text reg = 37 ∷ slice_index (codes "goli") (reg / 8) ∷ (48 + reg % 8) ∷ []

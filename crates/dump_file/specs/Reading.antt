-- Reading a dump, from left to right: the dump, or the offset of the first number that isn't whole or breaks its
-- rule.
use Rattle.std.specs.Prelude.{ℕ, zero, suc, ◌+◌, ◌*◌, Bool, ◌||◌, ◌==◌, nat_le, if◌then◌else◌, List, [], ◌∷◌, length, drop, Option, Some, None, Result, Ok, Err}
use Rattle.byteorder.specs.Endian.{big_number}
use Rattle.eel_base.specs.Fields.{be_field}
use Rattle.notes.specs.Format.{is_version, ◌>>=◌}
use Rattle.v8_step.specs.declared.Ending.{Ending}
use Rattle.v8_step.specs.declared.Ending.TheVariants.{Exit, Trap, Window, Couple}
use Rattle.dump_file.specs.Dump.{Dump}
use Rattle.dump_file.specs.Written.{mark}

-- a number that is whole
abbrev pub found : Option ℕ → ℕ → Result ℕ ℕ
found (Some number) at = Ok number
found None at = Err at

-- the number of `size` bytes at an offset
abbrev pub field_at : ℕ → List ℕ → ℕ → Result ℕ ℕ
field_at size bytes at = found (be_field size bytes at) at

-- a rule for what stands at an offset, once `value` was read
abbrev pub kept : {A : Type 0} → Bool → ℕ → A → Result A ℕ
kept rule at value = if rule then Ok value else Err at

-- the greatest number that an ending of a kind has
abbrev pub number_limit : ℕ → ℕ
number_limit kind = if (kind == 1) || (kind == 2) then 255 else 0

abbrev pub ending_of : ℕ → ℕ → Option Ending
ending_of kind number =
    if kind == 1 then Some (Exit number) else
    (if kind == 2 then Some (Trap number) else
    (if kind == 3 then Some Window else
    (if kind == 4 then Some Couple else None)))

-- kinds are 0 to 4
unfoldable pub ending_at : List ℕ → Result (Option Ending) ℕ
ending_at bytes = do
  read ← field_at 4 bytes 8
  kind ← kept (nat_le read 4) 8 read
  number ← field_at 4 bytes 12
  kept (nat_le number (number_limit kind)) 12 (ending_of kind number)

-- where the number of cells stands
abbrev pub count_place : ℕ → ℕ
count_place version = if version == 1 then 28 else 32

-- the size of the original, which version 1 doesn't tell
abbrev pub length_at : ℕ → List ℕ → Result ℕ ℕ
length_at version bytes = if version == 1 then Ok 0 else field_at 4 bytes 28

-- so many cells are all that follows the first bytes
abbrev pub fits : ℕ → List ℕ → ℕ → Bool
fits first bytes count = length bytes == first + 4 * count

-- the first words, so many of them
unfoldable pub words_of : List ℕ → ℕ → List ℕ
words_of bytes zero = []
words_of bytes (suc count) = big_number 4 bytes ∷ words_of (drop 4 bytes) count

-- the version, behind the mark
unfoldable pub version_at : List ℕ → Result ℕ ℕ
version_at bytes = do
  first ← field_at 4 bytes 0
  begins ← kept (first == mark) 0 first
  version ← field_at 4 bytes 4
  kept (is_version version) 4 version

-- the number of cells, which are all that follows it
unfoldable pub count_at : ℕ → List ℕ → Result ℕ ℕ
count_at version bytes = do
  let place = count_place version
  count ← field_at 4 bytes place
  kept (fits (place + 4) bytes count) place count

unfoldable pub read_dump : List ℕ → Result Dump ℕ
read_dump bytes = do
  version ← version_at bytes
  ending ← ending_at bytes
  pc ← field_at 4 bytes 16
  steps ← field_at 8 bytes 20
  size ← length_at version bytes
  count ← count_at version bytes
  Ok (record {
    version = version;
    ending = ending;
    pc = pc;
    steps = steps;
    length = size;
    cells = words_of (drop (count_place version + 4) bytes) count;
  })

-- it reads
abbrev pub IsRead : {A : Type 0} → Result A ℕ → Type 0
IsRead (Ok x) = Unit {0}
IsRead (Err at) = ⊥

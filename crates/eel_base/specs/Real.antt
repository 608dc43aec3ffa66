-- What errors of the system come to.
use Rattle.std.specs.Prelude.{ℕ, ◌/◌, bit_and, bit_or, if◌then◌else◌, Bool, List, [], ◌∷◌, take, Option, Some, None}
use Rattle.std.specs.Str.{bytes_eq}
use Rattle.std.specs.declared.io.ErrorKind.{ErrorKind}
use Rattle.eel_base.specs.declared.outside.FetchFault.{FetchFault}
use Rattle.eel_base.specs.declared.outside.FetchFault.TheVariants as fetches
use Rattle.eel_base.specs.declared.outside.PutFault.{PutFault}
use Rattle.eel_base.specs.declared.outside.PutFault.TheVariants as puts

-- where a file is read
abbrev pub fetch_fault_of : ErrorKind → FetchFault
fetch_fault_of ErrorKind.OutOfMemory = fetches.NoMemory
fetch_fault_of _ = fetches.Failed

-- where a file is put
abbrev pub put_fault_of : ErrorKind → PutFault
put_fault_of ErrorKind.OutOfMemory = puts.NoMemory
put_fault_of _ = puts.Failed

-- ---- the mode of a file that is put

-- it begins with 7f "ELF"
abbrev pub is_program : List ℕ → Bool
is_program bytes = bytes_eq (take 4 bytes) (127 ∷ 69 ∷ 76 ∷ 70 ∷ [])

-- who may read, write and execute it: the nine bits of the old file's mode (0777), or all may read and write (0666)
abbrev pub kept_mode : Option ℕ → ℕ
kept_mode (Some mode) = bit_and mode 511
kept_mode None = 438

-- who may read a program (0444) may execute it, too
abbrev pub mode_of : Option ℕ → Bool → ℕ
mode_of old is_program =
    if is_program then bit_or (kept_mode old) (bit_and (kept_mode old) 292 / 4) else kept_mode old

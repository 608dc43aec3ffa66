-- When the state in which a file starts is valid.
use Rattle.std.specs.Prelude.{◌≡◌, ℕ, ◌+◌, ◌-◌, ◌≤◌, false, List, ◌∷◌, length}
use Rattle.std.specs.List.{All}
use Rattle.elf32_sparc.specs.Header.{program_headers}
use Rattle.elf32_sparc.specs.FileFault.{has_bytes_outside}
use Rattle.elf32_sparc.specs.Mapping.{Mapping, mappings}
use Rattle.v8_step.specs.Valid.{IsValid}
use Rattle.v8_step.specs.State.{AreBytes}
use Rattle.v8_process.specs.Start.{start_of, program_name, strings, rounded_up, argument_size, stack_start, stack_end}

-- no more bytes of the file than there are of memory
abbrev pub HasRoom : Mapping → Type 0
HasRoom m = length m.first ≤ m.length

-- Each mapping has room where no entry has more bytes in the file than in memory, or bytes outside the file;
-- either is a fault of the file.
abbrev pub MappingsHaveRoom : Type 0
MappingsHaveRoom =
    (file : List ℕ) → has_bytes_outside (length file) (program_headers file) ≡ false
    → All HasRoom (mappings file)

-- The stack has room for the strings, the words, the 64 bytes below them, and a rounding to 8 bytes.
abbrev pub FitsStack : List (List ℕ) → Type 0
FitsStack texts = rounded_up (length (strings texts)) + argument_size texts + 72 ≤ stack_end - stack_start

-- A file of bytes starts in a valid state, where its mappings have room for its bytes, and the stack has room
-- for the arguments.
abbrev pub StartsValid : Type 0
StartsValid =
    (file : List ℕ) (args : List (List ℕ)) (input : List ℕ) → AreBytes file → All AreBytes args
    → AreBytes input → All HasRoom (mappings file) → FitsStack (program_name ∷ args)
    → IsValid (start_of file args input)

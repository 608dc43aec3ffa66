-- What a written file keeps of its original: the words of its notes, and its segments, but that code is not
-- executable.
use Rattle.std.specs.Prelude.{ℕ, List, bit_and, not, ◌&&◌, Bool, if◌then◌else◌}
use Rattle.std.specs.List.{flat_map}
use Rattle.byteorder.specs.Endian.{big_bytes}
use Rattle.elf32_sparc.specs.Header.{has_flag}
use Rattle.elf32_sparc.specs.Mapping.{Mapping}

unfoldable pub words_bytes : List ℕ → List ℕ
words_bytes words = flat_map (big_bytes 4) words

-- flags without PF_X
abbrev pub not_executable : ℕ → ℕ
not_executable flags = bit_and flags 0xfffffffe

abbrev pub is_code : Mapping → Bool
is_code m = has_flag 1 m.flags && not (has_flag 2 m.flags)

-- as the original maps it, but that code is not executable
abbrev pub kept : Mapping → Mapping
kept m = record m { flags = if is_code m then not_executable m.flags else m.flags }

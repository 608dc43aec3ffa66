-- The section table of a written file: the original's, whose sections stand `delta` further on (System V ABI,
-- figure 4-8, "Section Header").
use Rattle.std.specs.Prelude.{ℕ, ◌+◌, ◌*◌, ◌%◌, ◌^◌, ◌==◌, if◌then◌else◌, List, ◌++◌, take, drop}
use Rattle.std.specs.List.{flat_map, range_with_len}
use Rattle.byteorder.specs.Endian.{big_bytes}
use Rattle.elf32_sparc.specs.Header.{word_at}
use Rattle.elf32_sparc.specs.Symbols.{e_shoff, section_count}

-- an entry of 40 bytes with its sh_offset, the word at 16, further on
abbrev pub moved : ℕ → List ℕ → List ℕ
moved delta entry = take 16 entry ++ big_bytes 4 ((word_at entry 16 + delta) % 2 ^ 32) ++ drop 20 entry

-- one whose sh_type, the word at 4, is SHT_NULL has no bytes, and stays
unfoldable pub section_copy : ℕ → List ℕ → List ℕ
section_copy delta entry = if word_at entry 4 == 0 then entry else moved delta entry

-- the entry of that number in the original's table
abbrev pub section_entry : List ℕ → ℕ → List ℕ
section_entry original number = take 40 (drop (e_shoff original + 40 * number) original)

-- no bytes where the original's table can't be read
unfoldable pub section_table : ℕ → List ℕ → List ℕ
section_table delta original =
    flat_map (λ number. section_copy delta (section_entry original number)) (range_with_len 0 (section_count original))

-- The function symbols of a file (System V ABI, "Sections", "String Table" and "Symbol Table"), by the names and
-- places that it gives to the fields.
use Rattle.std.specs.Prelude.{ℕ, ◌+◌, ◌*◌, ◌/◌, ◌%◌, not, Bool, ◌&&◌, ◌==◌, nat_le, if◌then◌else◌, List, [], length, map, take, drop, take_while, find, filter_map, slice_get, Option, Some, None}
use Rattle.std.specs.List.{range_with_len}
use Rattle.std.specs.Option.{option_map, option_and_then, option_map_or}
use Rattle.eel_base.specs.CodeText.{Words, numbered, word_at as word_of}
use Rattle.eel_base.specs.declared.numbers.WordNo.{WordNo}
use Rattle.elf32_sparc.specs.declared.sections.Func.{Func}
use Rattle.elf32_sparc.specs.declared.sections.SectionHeader.{SectionHeader}
use Rattle.elf32_sparc.specs.Header.{byte_at, half_at, word_at}

-- ---- the section table

abbrev pub e_shoff : List ℕ → ℕ
e_shoff file = word_at file 32

abbrev pub e_shentsize : List ℕ → ℕ
e_shentsize file = half_at file 46

abbrev pub e_shnum : List ℕ → ℕ
e_shnum file = half_at file 48

-- so many bytes at an offset lie in the file
abbrev pub lie_in : List ℕ → ℕ → ℕ → Bool
lie_in file offset size = nat_le (offset + size) (length file)

-- the table is there: entries of 40 bytes, at least one, all of them in the file
abbrev pub has_sections : List ℕ → Bool
has_sections file =
    not (e_shoff file == 0) && (e_shentsize file == 40) && nat_le 1 (e_shnum file)
    && lie_in file (e_shoff file) (40 * e_shnum file)

-- the section header at an offset
unfoldable pub section_header : List ℕ → ℕ → SectionHeader
section_header file at = record {
  sh_type = word_at file (at + 4);
  sh_offset = word_at file (at + 16);
  sh_size = word_at file (at + 20);
  sh_link = word_at file (at + 24);
  sh_entsize = word_at file (at + 36);
}

-- how many sections can be read
abbrev pub section_count : List ℕ → ℕ
section_count file = if has_sections file then e_shnum file else 0

abbrev pub sections : List ℕ → List SectionHeader
sections file =
    map (λ number. section_header file (e_shoff file + 40 * number)) (range_with_len 0 (section_count file))

abbrev pub section_in : List ℕ → SectionHeader → Bool
section_in file section = lie_in file section.sh_offset section.sh_size

-- the bytes of a section
abbrev pub section_bytes : List ℕ → SectionHeader → List ℕ
section_bytes file section = take section.sh_size (drop section.sh_offset file)

-- ---- the symbol table: the first section of type SHT_SYMTAB, where it and its string table can be read

abbrev pub is_symbol_table : SectionHeader → Bool
is_symbol_table section = section.sh_type == 2

-- of entries of 16 bytes
abbrev pub is_readable : List ℕ → SectionHeader → Bool
is_readable file section = section_in file section && (section.sh_entsize == 16)

-- of type SHT_STRTAB
abbrev pub is_string_table : List ℕ → SectionHeader → Bool
is_string_table file section = (section.sh_type == 3) && section_in file section

abbrev pub if_it_is : (SectionHeader → Bool) → SectionHeader → Option SectionHeader
if_it_is is section = if is section then Some section else None

abbrev pub symbol_table : List ℕ → Option SectionHeader
symbol_table file = option_and_then (if_it_is (is_readable file)) (find is_symbol_table (sections file))

-- the string table of a symbol table: the section to which its sh_link leads
abbrev pub string_table : List ℕ → SectionHeader → Option SectionHeader
string_table file symbols =
    option_and_then (if_it_is (is_string_table file)) (slice_get (sections file) symbols.sh_link)

-- ---- symbols

-- a symbol of type STT_FUNC
abbrev pub is_function : List ℕ → ℕ → Bool
is_function file at = byte_at file (at + 12) % 16 == 2

abbrev pub longest_name : ℕ
longest_name = 255

-- the name at a place of a string table: up to its zero byte or the table's end, and 255 bytes of it at most
abbrev pub name_in : List ℕ → ℕ → List ℕ
name_in strings st_name = take longest_name (take_while (λ byte. not (byte == 0)) (drop st_name strings))

abbrev pub named : List ℕ → WordNo → Func
named name start = record { start = start; name = name }

-- the function of the symbol at an offset, where it is one and begins at a word of the text
abbrev pub func_at : List ℕ → Words → List ℕ → ℕ → Option Func
func_at file text strings at =
    if is_function file at
    then option_map (named (name_in strings (word_at file at))) (numbered (word_of text (word_at file (at + 4))))
    else None

-- the functions of a symbol table, in its order
abbrev pub funcs_in : List ℕ → Words → SectionHeader → SectionHeader → List Func
funcs_in file text symbols strings =
    filter_map (λ number. func_at file text (section_bytes file strings) (symbols.sh_offset + 16 * number))
    (range_with_len 0 (symbols.sh_size / 16))

-- the functions of a symbol table, where its string table can be read
abbrev pub funcs_with : List ℕ → Words → SectionHeader → List Func
funcs_with file text symbols = option_map_or (funcs_in file text symbols) (string_table file symbols) []

unfoldable pub funcs_of : List ℕ → Words → List Func
funcs_of file text = option_map_or (funcs_with file text) (symbol_table file) []

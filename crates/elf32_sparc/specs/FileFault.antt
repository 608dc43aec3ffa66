-- What keeps a file from being edited, and what keeps one from being run. The faults have an order, and
-- a file has the first that holds.
use Rattle.std.specs.Prelude.{ℕ, ◌+◌, ◌-◌, ◌*◌, ◌/◌, ◌%◌, ◌^◌, Bool, false, not, ◌&&◌, ◌||◌, ◌==◌, nat_lt, nat_le, if◌then◌else◌, List, [], ◌∷◌, ◌++◌, length, Option, Some, None}
use Rattle.std.specs.List.{list_any, sum_by}
use Rattle.std.specs.Int.{is_power_of_two}
use Rattle.std.specs.Option.{option_map_or}
use Rattle.elf32_sparc.specs.declared.header.ProgramHeader.{ProgramHeader}
use Rattle.elf32_sparc.specs.declared.fault.FileFault.{FileFault}
use Rattle.elf32_sparc.specs.declared.fault.FileFault.TheVariants.{Short, Magic, Class, Order, Version, Kind, Machine, HeaderSize, Headers, Dynamic, SegmentFile, SegmentRoom, SegmentOrder, Align, NoText, ManyTexts, TextShape, TextLarge, Entry, MemoryLarge}
use Rattle.elf32_sparc.specs.Header.{ei_magic, ei_class, ei_data, ei_version, e_type, e_machine, e_version, e_entry, e_phoff, e_ehsize, e_phentsize, e_phnum, program_headers, is_load, loadable, end_of, text_header, text_count}

-- the number of a fault
abbrev pub code_of : FileFault → ℕ
code_of Short = 1
code_of Magic = 2
code_of Class = 3
code_of Order = 4
code_of Version = 5
code_of Kind = 6
code_of Machine = 7
code_of HeaderSize = 8
code_of Headers = 9
code_of Dynamic = 10
code_of SegmentFile = 11
code_of SegmentRoom = 12
code_of SegmentOrder = 13
code_of Align = 14
code_of NoText = 15
code_of ManyTexts = 16
code_of TextShape = 17
code_of TextLarge = 18
code_of Entry = 19
code_of MemoryLarge = 20

-- The file header.

-- shorter than a file header
unfoldable pub is_short : List ℕ → Bool
is_short file = nat_lt (length file) 52

-- 7f 'E' 'L' 'F'
unfoldable pub has_other_magic : List ℕ → Bool
has_other_magic file = not (ei_magic file == 0x7f454c46)

-- ELFCLASS32
unfoldable pub has_other_class : List ℕ → Bool
has_other_class file = not (ei_class file == 1)

-- ELFDATA2MSB
unfoldable pub has_other_order : List ℕ → Bool
has_other_order file = not (ei_data file == 2)

-- EV_CURRENT, at both places
unfoldable pub has_other_version : List ℕ → Bool
has_other_version file = not (ei_version file == 1) || not (e_version file == 1)

-- ET_EXEC
unfoldable pub has_other_type : List ℕ → Bool
has_other_type file = not (e_type file == 2)

-- EM_SPARC
unfoldable pub has_other_machine : List ℕ → Bool
has_other_machine file = not (e_machine file == 2)

unfoldable pub has_other_sizes : List ℕ → Bool
has_other_sizes file = not (e_ehsize file == 52) || not (e_phentsize file == 32)

-- no program header, or more than `most`, or some outside the file
unfoldable pub has_bad_table : ℕ → List ℕ → Bool
has_bad_table most file = (e_phnum file == 0) || nat_lt most (e_phnum file) || nat_lt (length file) (e_phoff file + 32 * e_phnum file)

-- The program headers.

-- PT_DYNAMIC or PT_INTERP
abbrev pub is_dynamic : ProgramHeader → Bool
is_dynamic header = (header.p_type == 2) || (header.p_type == 3)

unfoldable pub has_dynamic : List ProgramHeader → Bool
has_dynamic headers = list_any is_dynamic headers

-- a PT_LOAD entry with more bytes in the file than in memory, or with bytes outside a file of this size
abbrev pub leaves_file : ℕ → ProgramHeader → Bool
leaves_file size header = is_load header && (nat_lt header.p_memsz header.p_filesz || (nat_lt 0 header.p_filesz && nat_lt size (header.p_offset + header.p_filesz)))

unfoldable pub has_bytes_outside : ℕ → List ProgramHeader → Bool
has_bytes_outside size headers = list_any (leaves_file size) headers

-- memory outside the addresses of a program
abbrev pub leaves_room : ProgramHeader → Bool
leaves_room header = nat_lt header.p_vaddr 0x1000 || nat_lt 0x80000000 (end_of header)

unfoldable pub has_memory_outside : List ProgramHeader → Bool
has_memory_outside headers = list_any leaves_room (loadable headers)

-- one begins before the one before it ends, or the first before `end`
abbrev pub descends_from : ℕ → List ProgramHeader → Bool
descends_from end [] = false
descends_from end (header ∷ headers) = nat_lt header.p_vaddr end || descends_from (end_of header) headers

unfoldable pub has_disorder : List ProgramHeader → Bool
has_disorder headers = descends_from 0 (loadable headers)

-- Alignment 0 asks nothing. Otherwise it is a power of two up to 2^20, modulo which the address and the
-- offset are congruent.
abbrev pub is_aligned : ProgramHeader → Bool
is_aligned header = (header.p_align == 0) || (is_power_of_two header.p_align && nat_le header.p_align (2 ^ 20) && (header.p_vaddr % header.p_align == header.p_offset % header.p_align))

unfoldable pub has_misaligned : List ProgramHeader → Bool
has_misaligned headers = list_any (λ header. not (is_aligned header)) (loadable headers)

-- all that the entries take of memory
unfoldable pub memory_size : List ProgramHeader → ℕ
memory_size headers = sum_by (λ header. header.p_memsz) (loadable headers)

-- The text.

abbrev pub is_misshapen : ProgramHeader → Bool
is_misshapen header = not (header.p_vaddr % 4 == 0) || nat_lt header.p_memsz 4

-- how many whole words it has
abbrev pub word_count : ProgramHeader → ℕ
word_count header = header.p_memsz / 4

-- the address of a whole word of it
abbrev pub is_word_address : ℕ → ProgramHeader → Bool
is_word_address address header = nat_le header.p_vaddr address && ((address - header.p_vaddr) % 4 == 0) && nat_lt ((address - header.p_vaddr) / 4) (word_count header)

unfoldable pub has_misshapen_text : List ProgramHeader → Bool
has_misshapen_text headers = option_map_or is_misshapen (text_header headers) false

unfoldable pub has_large_text : List ProgramHeader → Bool
has_large_text headers = option_map_or (λ header. nat_lt (2 ^ 20) (word_count header)) (text_header headers) false

unfoldable pub has_other_entry : ℕ → List ProgramHeader → Bool
has_other_entry entry headers = not (option_map_or (is_word_address entry) (text_header headers) false)

-- The first fault that holds.

abbrev pub first_that_holds : List (FileFault × Bool) → Option FileFault
first_that_holds [] = None
first_that_holds (row ∷ rows) = if row.1 then Some row.0 else first_that_holds rows

-- the faults of the file header and of the table's place, with at most so many program headers
abbrev pub header_rows : ℕ → List ℕ → List (FileFault × Bool)
header_rows most file =
    (Short, is_short file) ∷
    (Magic, has_other_magic file) ∷
    (Class, has_other_class file) ∷
    (Order, has_other_order file) ∷
    (Version, has_other_version file) ∷
    (Kind, has_other_type file) ∷
    (Machine, has_other_machine file) ∷
    (HeaderSize, has_other_sizes file) ∷
    (Headers, has_bad_table most file) ∷ []

-- the faults of the program headers of a file of this size with this entry
abbrev pub entry_rows : ℕ → ℕ → List ProgramHeader → List (FileFault × Bool)
entry_rows size entry headers =
    (Dynamic, has_dynamic headers) ∷
    (SegmentFile, has_bytes_outside size headers) ∷
    (SegmentRoom, has_memory_outside headers) ∷
    (SegmentOrder, has_disorder headers) ∷
    (Align, has_misaligned headers) ∷
    (NoText, text_count headers == 0) ∷
    (ManyTexts, nat_lt 1 (text_count headers)) ∷
    (TextShape, has_misshapen_text headers) ∷
    (TextLarge, has_large_text headers) ∷
    (Entry, has_other_entry entry headers) ∷
    (MemoryLarge, nat_lt (128 * 2 ^ 20) (memory_size headers)) ∷ []

-- what keeps a file from being edited
unfoldable pub fault : List ℕ → Option FileFault
fault file = first_that_holds (header_rows 64 file ++ entry_rows (length file) (e_entry file) (program_headers file))

-- A file that is run may have more headers and more memory, and one segment where the machine of this
-- project has a page at the top of memory. Its text isn't judged.

-- exactly the last page
abbrev pub is_last_page : ProgramHeader → Bool
is_last_page header = (header.p_vaddr == 0xfffff000) && (header.p_memsz == 4096)

unfoldable pub has_memory_outside_a_run : List ProgramHeader → Bool
has_memory_outside_a_run headers = list_any (λ header. leaves_room header && not (is_last_page header)) (loadable headers)

abbrev pub load_rows : ℕ → List ProgramHeader → List (FileFault × Bool)
load_rows size headers =
    (SegmentFile, has_bytes_outside size headers) ∷
    (SegmentRoom, has_memory_outside_a_run headers) ∷
    (SegmentOrder, has_disorder headers) ∷
    (Align, has_misaligned headers) ∷
    (MemoryLarge, nat_lt (1280 * 2 ^ 20) (memory_size headers)) ∷ []

-- what keeps a file from being run
unfoldable pub load_fault : List ℕ → Option FileFault
load_fault file = first_that_holds (header_rows 80 file ++ load_rows (length file) (program_headers file))

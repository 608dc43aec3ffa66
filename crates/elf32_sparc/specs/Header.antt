-- The header of an ELF32 file and its program headers, by the names and places of the System V ABI
-- ("ELF Header" and "Program Header"). A field that the file doesn't reach is 0.
use Rattle.std.specs.Prelude.{ℕ, zero, suc, ◌+◌, Bool, not, ◌&&◌, ◌==◌, nat_lt, bit_and, List, [], ◌∷◌, Option, unwrap_or, slice_index}
use Rattle.std.specs.List.{filter, find, count_by}
use Rattle.eel_base.specs.Fields.{be_field}
use Rattle.elf32_sparc.specs.declared.header.ProgramHeader.{ProgramHeader}

abbrev pub byte_at : List ℕ → ℕ → ℕ
byte_at file at = slice_index file at

unfoldable pub half_at : List ℕ → ℕ → ℕ
half_at file at = unwrap_or (be_field 2 file at) 0

unfoldable pub word_at : List ℕ → ℕ → ℕ
word_at file at = unwrap_or (be_field 4 file at) 0

-- The file header.

-- e_ident[EI_MAG0] to e_ident[EI_MAG3], as one word
abbrev pub ei_magic : List ℕ → ℕ
ei_magic file = word_at file 0

abbrev pub ei_class : List ℕ → ℕ
ei_class file = byte_at file 4

abbrev pub ei_data : List ℕ → ℕ
ei_data file = byte_at file 5

abbrev pub ei_version : List ℕ → ℕ
ei_version file = byte_at file 6

abbrev pub e_type : List ℕ → ℕ
e_type file = half_at file 16

abbrev pub e_machine : List ℕ → ℕ
e_machine file = half_at file 18

abbrev pub e_version : List ℕ → ℕ
e_version file = word_at file 20

abbrev pub e_entry : List ℕ → ℕ
e_entry file = word_at file 24

abbrev pub e_phoff : List ℕ → ℕ
e_phoff file = word_at file 28

abbrev pub e_ehsize : List ℕ → ℕ
e_ehsize file = half_at file 40

abbrev pub e_phentsize : List ℕ → ℕ
e_phentsize file = half_at file 42

abbrev pub e_phnum : List ℕ → ℕ
e_phnum file = half_at file 44

-- The program headers.

-- the program header at an offset
unfoldable pub program_header : List ℕ → ℕ → ProgramHeader
program_header file at = record {
  p_type = word_at file at;
  p_offset = word_at file (at + 4);
  p_vaddr = word_at file (at + 8);
  p_paddr = word_at file (at + 12);
  p_filesz = word_at file (at + 16);
  p_memsz = word_at file (at + 20);
  p_flags = word_at file (at + 24);
  p_align = word_at file (at + 28);
}

-- `count` program headers of 32 bytes each, the first at `at`
abbrev pub headers_from : List ℕ → ℕ → ℕ → List ProgramHeader
headers_from file at zero = []
headers_from file at (suc count) = program_header file at ∷ headers_from file (at + 32) count

unfoldable pub program_headers : List ℕ → List ProgramHeader
program_headers file = headers_from file (e_phoff file) (e_phnum file)

-- a PT_LOAD entry
abbrev pub is_load : ProgramHeader → Bool
is_load header = header.p_type == 1

-- one that takes memory
abbrev pub is_loadable : ProgramHeader → Bool
is_loadable header = is_load header && nat_lt 0 header.p_memsz

abbrev pub loadable : List ProgramHeader → List ProgramHeader
loadable headers = filter is_loadable headers

-- where its memory ends
abbrev pub end_of : ProgramHeader → ℕ
end_of header = header.p_vaddr + header.p_memsz

-- The flags of a segment: PF_X is 1, PF_W is 2 and PF_R is 4.

abbrev pub has_flag : ℕ → ℕ → Bool
has_flag flag flags = bit_and flags flag == flag

-- The text: the loadable entry with PF_X and without PF_W.

abbrev pub is_text : ProgramHeader → Bool
is_text header = is_loadable header && has_flag 1 header.p_flags && not (has_flag 2 header.p_flags)

abbrev pub text_header : List ProgramHeader → Option ProgramHeader
text_header headers = find is_text headers

abbrev pub text_count : List ProgramHeader → ℕ
text_count headers = count_by is_text headers

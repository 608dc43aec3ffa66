-- The image of a file that can be edited: its segments, its text and function symbols, and the room above it.
use Rattle.std.specs.Prelude.{ℕ, zero, suc, ◌+◌, ◌-◌, ◌*◌, ◌/◌, ◌^◌, min, max, List, [], ◌∷◌, map, drop}
use Rattle.std.specs.List.{fold}
use Rattle.std.specs.Option.{option_map_or}
use Rattle.byteorder.specs.Endian.{big_number}
use Rattle.eel_base.specs.CodeText.{Words}
use Rattle.elf32_sparc.specs.declared.header.ProgramHeader.{ProgramHeader}
use Rattle.elf32_sparc.specs.declared.program.Segment.{Segment}
use Rattle.elf32_sparc.specs.declared.sections.Func.{Func}
use Rattle.elf32_sparc.specs.Mapping.{memory_bytes}
use Rattle.elf32_sparc.specs.Symbols.{funcs_of}
use Rattle.elf32_sparc.specs.Header.{program_headers, loadable, text_header, e_entry}

abbrev pub segment_of : ProgramHeader → Segment
segment_of header = record {
  offset = header.p_offset;
  vaddr = record { 0 = header.p_vaddr };
  filesz = header.p_filesz;
  memsz = header.p_memsz;
  flags = record { 0 = header.p_flags };
  align = header.p_align;
}

-- The text.

-- the first `count` words of some bytes
abbrev pub words_of : ℕ → List ℕ → List ℕ
words_of zero bytes = []
words_of (suc count) bytes = big_number 4 bytes ∷ words_of count (drop 4 bytes)

-- the whole words of an entry's memory
unfoldable pub text_from : List ℕ → ProgramHeader → Words
text_from file header = record { start = header.p_vaddr; words = words_of (header.p_memsz / 4) (memory_bytes file header) }

abbrev pub no_text : Words
no_text = record { start = 0; words = [] }

unfoldable pub text_of : List ℕ → Words
text_of file = option_map_or (text_from file) (text_header (program_headers file)) no_text

-- the number of the word at an address
abbrev pub word_number : Words → ℕ → ℕ
word_number text address = (address - text.start) / 4

-- The room above the segments.

abbrev pub segment_end : Segment → ℕ
segment_end segment = segment.vaddr.0 + segment.memsz

-- the greatest of their ends
abbrev pub highest_end : List Segment → ℕ
highest_end segments = fold (λ end segment. max end (segment_end segment)) 0 segments

-- the least multiple of 0x10000 that is not below
abbrev pub rounded_up : ℕ → ℕ
rounded_up address = (address + 0xffff) / 0x10000 * 0x10000

-- what is free from there, and at most 1 GiB
abbrev pub room_from : ℕ → ℕ
room_from base = min (2 ^ 30) (0x80000000 - base)

-- The image.

pub record Program : Type 0 where
  pub segments : List Segment
  pub text : Words
  pub funcs : List Func
  pub entry : ℕ
  pub base : ℕ
  pub room : ℕ

unfoldable pub image_of : List ℕ → Program
image_of file =
    let segments = map segment_of (loadable (program_headers file)) in
    let base = rounded_up (highest_end segments) in
    record {
      segments = segments;
      text = text_of file;
      funcs = funcs_of file (text_of file);
      entry = word_number (text_of file) (e_entry file);
      base = base;
      room = room_from base;
    }

-- The headers of a written file (System V ABI, "Object Files": figure 4-3, "ELF Header", and figure 5-1,
-- "Program Header").
use Rattle.std.specs.Prelude.{ℕ, ◌+◌, ◌%◌, ◌^◌, Bool, not, ◌&&◌, ◌==◌, if◌then◌else◌, max, List, [], ◌∷◌, ◌++◌, length, take, map, filter}
use Rattle.std.specs.List.{fold}
use Rattle.elf32_sparc.specs.declared.header.ProgramHeader.{ProgramHeader}
use Rattle.elf32_sparc.specs.Header.{word_at, half_at, is_load, loadable, is_text}
use Rattle.elf32_sparc.specs.Symbols.{has_sections, section_count}
use Rattle.elf32_write.specs.declared.segment.NewSegment.{NewSegment}
use Rattle.elf32_write.specs.Bytes.{halves_bytes, page_size, next_page}
use Rattle.elf32_write.specs.Kept.{not_executable, words_bytes}

-- ---- the segments that are added

-- Where one stands in memory, how long it is there, its flags, and the bytes that it begins with; zeros follow.
pub record AddedSegment : Type 0 where
  pub vaddr : ℕ
  pub memsz : ℕ
  pub flags : ℕ
  pub bytes : List ℕ

-- one as the program keeps it
abbrev pub segment_seen : NewSegment → AddedSegment
segment_seen s = record { vaddr = s.vaddr.0; memsz = s.memsz; flags = s.flags.0; bytes = s.bytes.items }

-- The bytes of each begin at the next page: where those of the last end, after a file that ends at `end`.
abbrev pub segments_end : ℕ → List AddedSegment → ℕ
segments_end end [] = end
segments_end end (s ∷ segments) = segments_end (next_page end + length s.bytes) segments

-- the header of one whose bytes stand at an offset; its type is PT_LOAD
abbrev pub added_header : ℕ → AddedSegment → ProgramHeader
added_header offset s = record {
  p_type = 1;
  p_offset = offset;
  p_vaddr = s.vaddr;
  p_paddr = s.vaddr;
  p_filesz = length s.bytes;
  p_memsz = s.memsz;
  p_flags = s.flags;
  p_align = page_size;
}

abbrev pub added_headers : ℕ → List AddedSegment → List ProgramHeader
added_headers end [] = []
added_headers end (s ∷ segments) = added_header (next_page end) s ∷ added_headers (next_page end + length s.bytes) segments

-- ---- the original's program headers

-- where the original stands in the written file: a multiple of all its alignments, and of a page
abbrev pub delta_of : List ProgramHeader → ℕ
delta_of headers = fold (λ most header. max most header.p_align) page_size (loadable headers)

-- All entries are carried on, but for the table's own (PT_PHDR, 6) and for empty ones to load.
abbrev pub is_carried : ProgramHeader → Bool
is_carried header = not (header.p_type == 6) && not (is_load header && (header.p_memsz == 0))

-- An entry whose bytes stand `delta` further on, the text no longer executable. The offset of an entry that isn't
-- loaded may be past 2^32 then, and is kept modulo 2^32.
abbrev pub carried_on : ℕ → ProgramHeader → ProgramHeader
carried_on delta header = record header {
  p_offset = (header.p_offset + delta) % 2 ^ 32;
  p_flags = if is_text header then not_executable header.p_flags else header.p_flags;
}

abbrev pub carried_headers : ℕ → List ProgramHeader → List ProgramHeader
carried_headers delta headers = map (carried_on delta) (filter is_carried headers)

-- ---- as bytes

unfoldable pub program_header : ProgramHeader → List ℕ
program_header h =
    words_bytes (h.p_type ∷ h.p_offset ∷ h.p_vaddr ∷ h.p_paddr ∷ h.p_filesz ∷ h.p_memsz ∷ h.p_flags ∷ h.p_align ∷ [])

-- the number of the section with the names of the sections, where there are any
abbrev pub section_names : List ℕ → ℕ
section_names original = if has_sections original then half_at original 50 else 0

-- The header of the file: the original's identification and flags, an executable (ET_EXEC, 2) for SPARC
-- (EM_SPARC, 2) of version 1 with this entry, so many program headers right after it, and the original's sections
-- at this offset.
abbrev pub file_header : List ℕ → ℕ → ℕ → ℕ → List ℕ
file_header original entry segments sections =
    take 16 original
    ++ halves_bytes (2 ∷ 2 ∷ [])
    ++ words_bytes (1 ∷ entry ∷ 52 ∷ sections ∷ word_at original 36 ∷ [])
    ++ halves_bytes (52 ∷ 32 ∷ segments ∷ 40 ∷ section_count original ∷ section_names original ∷ [])

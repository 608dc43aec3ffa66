-- The file that is written around an original, in order: headers, the locator of the notes, the original, the
-- segments that are added, the notes, and the original's section table.
use Rattle.std.specs.Prelude.{ℕ, ◌+◌, if◌then◌else◌, List, [], ◌∷◌, ◌++◌, length}
use Rattle.std.specs.List.{flat_map}
use Rattle.elf32_sparc.specs.declared.header.ProgramHeader.{ProgramHeader}
use Rattle.elf32_sparc.specs.Header.{program_headers}
use Rattle.elf32_sparc.specs.Symbols.{has_sections}
use Rattle.elf32_write.specs.Bytes.{padded_to, next_page, next_word}
use Rattle.elf32_write.specs.Headers.{AddedSegment, segments_end, added_headers, delta_of, carried_headers, program_header, file_header}
use Rattle.elf32_write.specs.Sections.{section_table}
use Rattle.elf32_write.specs.Kept.{words_bytes}

-- ---- where the parts stand

-- The written file holds the original's bytes unchanged from this offset on. It is a multiple of 4096 and of the
-- alignment of each loaded segment, so that the carried program headers keep their congruence.
abbrev pub delta_in : List ℕ → ℕ
delta_in original = delta_of (program_headers original)

-- the offset behind the original's last byte
abbrev pub original_end : List ℕ → ℕ
original_end original = delta_in original + length original

abbrev pub notes_at : List ℕ → List AddedSegment → ℕ
notes_at original added = next_word (segments_end (original_end original) added)

-- the section table, right after the notes; 0 where there is none
abbrev pub sections_at : List ℕ → List AddedSegment → List ℕ → ℕ
sections_at original added notes = if has_sections original then notes_at original added + length notes else 0

abbrev pub locator_at : ℕ
locator_at = 4032

-- ---- the parts

abbrev pub segment_headers : List ℕ → List AddedSegment → List ProgramHeader
segment_headers original added =
    carried_headers (delta_in original) (program_headers original) ++ added_headers (original_end original) added

abbrev pub headers : List ℕ → List AddedSegment → ℕ → List ℕ → List ℕ
headers original added entry notes =
    file_header original entry (length (segment_headers original added)) (sections_at original added notes)
    ++ flat_map program_header (segment_headers original added)

-- `EELN`, the version 2, and where the notes stand
abbrev pub locator : List ℕ → List AddedSegment → List ℕ → List ℕ
locator original added notes = words_bytes (0x45454c4e ∷ 2 ∷ notes_at original added ∷ length notes ∷ [])

-- the file, and then the bytes of each segment at the next page
abbrev pub with_segments : List ℕ → List AddedSegment → List ℕ
with_segments file [] = file
with_segments file (s ∷ segments) = with_segments (padded_to (next_page (length file)) file ++ s.bytes) segments

-- ---- the file

unfoldable pub written : List ℕ → List AddedSegment → ℕ → List ℕ → List ℕ
written original added entry notes =
    let located = padded_to locator_at (headers original added entry notes) ++ locator original added notes in
    let whole = padded_to (delta_in original) located ++ original in
    padded_to (notes_at original added) (with_segments whole added) ++ notes
    ++ section_table (delta_in original) original

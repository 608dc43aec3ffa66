-- Where the parts of a written file stand, and what its header and program headers say.
use Rattle.elf32_write.proofs.Common.{length-take, ◌≡◌, ℕ, ◌+◌, ◌-◌, ◌*◌, ◌≤◌, List, [], ◌∷◌, ◌++◌, length, replicate, refl, length-append, arith, flat_map, ProgramHeader, accepted, whole_header, padded_to, next_page, AddedSegment, segments_end, program_header, section_table, delta_in, notes_at, locator_at, segment_headers, headers, locator, with_segments, written, CanWrite, zero, suc, ◌<◌, take, slice_index, sym, ap, ◌∙◌, All, le-leb, big_number, word_at, half_at, headers_from, program_headers, halves_bytes, words_bytes, sections_at, section_count, section_names, length-replicate, get_or-take, length-take-le, big_from-take, ei_magic}
use Rattle.elf32_write.proofs.WordsBytes.{length-words_bytes, length-halves_bytes, length-flat_map}
use Rattle.elf32_write.proofs.Part.{Part, part_more, part_last, FieldsAt, part_front, part_back, take_part, fields_at}
use Rattle.elf32_write.proofs.Segments.{few-segment_headers, delta-from}
use Rattle.elf32_sparc.specs.Header as elf
use Rattle.elf32_write.proofs.Fields.{HasFields}

length-program_header : (h : ProgramHeader) → length (program_header h) ≡ 32
unfolding program_header
length-program_header h = length-words_bytes _

length-table : (hs : List ProgramHeader) → length (flat_map program_header hs) ≡ 32 * length hs
length-table hs = length-flat_map program_header 32 length-program_header hs

-- ---- zeros up to an offset, and more after them

module _ (offset : ℕ) (bytes more : List ℕ) where
  part_under : {at : ℕ} {part : List ℕ} → Part bytes at part → Part (padded_to offset bytes ++ more) at part
  unfolding padded_to
  part_under p = part_more more (part_more (replicate (offset - length bytes) 0) p)

  length-after : length bytes ≤ offset → length (padded_to offset bytes ++ more) ≡ offset + length more
  unfolding padded_to
  length-after fits = simp (length-append, length-replicate) (omega arith)

  part_after : length bytes ≤ offset → Part (padded_to offset bytes ++ more) offset more
  unfolding padded_to
  part_after fits = part_last (padded_to offset bytes) more (simp (length-append, length-replicate) (omega arith))

-- ---- the added segments

part_segments : (added : List AddedSegment) (file : List ℕ) {at : ℕ} {part : List ℕ} → Part file at part → Part (with_segments file added) at part
part_segments [] file p = p
part_segments (s ∷ added) file p = part_segments added _ (part_under (next_page (length file)) file s.bytes p)

-- the first one's bytes
pub part_segment : (s : AddedSegment) (added : List AddedSegment) (file : List ℕ) → Part (with_segments file (s ∷ added)) (next_page (length file)) s.bytes
part_segment s added file = part_segments added _ (part_after (next_page (length file)) file s.bytes (omega arith))

pub length-segment : (s : AddedSegment) (file : List ℕ) → length (padded_to (next_page (length file)) file ++ s.bytes) ≡ next_page (length file) + length s.bytes
length-segment s file = length-after (next_page (length file)) file s.bytes (omega arith)

length-with_segments : (added : List AddedSegment) (file : List ℕ) → length (with_segments file added) ≡ segments_end (length file) added
length-with_segments [] file = refl
length-with_segments (s ∷ added) file = rw (length-with_segments added _, length-segment s file) refl

-- ---- a file of such parts, and where they stand in it

unfoldable pub front : (h l o : List ℕ) (delta : ℕ) → List ℕ
front h l o delta = padded_to delta (padded_to locator_at h ++ l) ++ o

unfoldable pub file_of : (h l o : List ℕ) (added : List AddedSegment) (n s : List ℕ) (delta end : ℕ) → List ℕ
file_of h l o added n s delta end = padded_to end (with_segments (front h l o delta) added) ++ n ++ s

pub record Stands (file h l o : List ℕ) (added : List AddedSegment) (n s : List ℕ) (delta end : ℕ) : Type 0 where
  pub headers : Part file 0 h
  pub locator : Part file locator_at l
  pub original : Part file delta o
  pub segments : (at : ℕ) (part : List ℕ) → Part (with_segments (front h l o delta) added) at part → Part file at part
  pub start : length (front h l o delta) ≡ delta + length o
  pub notes : Part file end n
  pub whole : length file ≡ end + length n + length s

stands : (h l o : List ℕ) (added : List AddedSegment) (n s : List ℕ) (delta end : ℕ) → length h ≤ locator_at → length l ≡ 16 → 4096 ≤ delta
    → segments_end (delta + length o) added ≤ end → Stands (file_of h l o added n s delta end) h l o added n s delta end
unfolding file_of front
stands h l o added n s delta end short size from fits =
    let located = padded_to locator_at h ++ l in
    let located_fits : length located ≤ delta = omega (arith, length-after locator_at h l short, size, from) in
    let whole = padded_to delta located ++ o in
    let whole_size : length whole ≡ delta + length o = length-after delta located o located_fits in
    let segmented = with_segments whole added in
    let segmented_fits : length segmented ≤ end = rw (length-with_segments added whole, whole_size) fits in
    let outer = λ (at : ℕ) (part : List ℕ) (p : Part segmented at part). part_more s (part_under end segmented n p) in
    let inner = λ (at : ℕ) (part : List ℕ) (p : Part located at part). outer at part (part_segments added whole (part_under delta located o p)) in
    record {
      headers = inner 0 h (part_under locator_at h l (part_last [] h refl));
      locator = inner locator_at l (part_after locator_at h l short);
      original = outer delta o (part_segments added whole (part_after delta located o located_fits));
      segments = outer;
      start = whole_size;
      notes = part_more s (part_after end segmented n segmented_fits);
      whole = rw (length-append, length-after end segmented n segmented_fits) refl;
    }

-- ---- the parts of a written file

length-headers : (original : List ℕ) (added : List AddedSegment) (entry : ℕ) (notes : List ℕ) → 52 ≤ length original
    → length (headers original added entry notes) ≡ 52 + 32 * length (segment_headers original added)
length-headers original added entry notes whole =
    simp (length-append, length-take, length-words_bytes, length-halves_bytes, length-table) (omega arith)

pub written_stands : (original : List ℕ) (added : List AddedSegment) (entry : ℕ) (notes : List ℕ) → CanWrite original added notes
    → Stands (written original added entry notes) (headers original added entry notes) (locator original added notes) original added notes
    (section_table (delta_in original) original) (delta_in original) (notes_at original added)
unfolding written file_of front
written_stands original added entry notes can =
    let size = length-headers original added entry notes (whole_header original (accepted original can.sound)) in
    stands (headers original added entry notes) _ original added notes _ _ _
    (omega (arith, few-segment_headers original added notes can, size)) (length-words_bytes _)
    (delta-from original) (omega arith)

-- ---- the program headers

header_read : (file : List ℕ) (at : ℕ) (h : ProgramHeader) → HasFields h → Part file at (program_header h) → elf.program_header file at ≡ h
unfolding program_header elf.program_header words_bytes word_at
header_read file at h fits p =
    let e : at + 0 ≡ at = omega arith in
    let f = fields_at 4 file at 0 (h.p_type ∷ h.p_offset ∷ h.p_vaddr ∷ h.p_paddr ∷ h.p_filesz ∷ h.p_memsz ∷ h.p_flags ∷ h.p_align ∷ []) (rw e p) in
    rw (rw e at (f.0 fits.0), f.1.0 fits.1, f.1.1.0 fits.2, f.1.1.1.0 fits.3, f.1.1.1.1.0 fits.4, f.1.1.1.1.1.0 fits.5, f.1.1.1.1.1.1.0 fits.6, f.1.1.1.1.1.1.1.0 fits.7) refl

headers_read : (file : List ℕ) (at : ℕ) (hs : List ProgramHeader) → All HasFields hs → Part file at (flat_map program_header hs) → headers_from file at (length hs) ≡ hs
headers_read file at [] all p = refl
headers_read file at (h ∷ hs) all p =
    rw (
      header_read file at h (all zero h (omega arith)) (part_front _ (flat_map program_header hs) p),
      headers_read file (at + 32) hs (λ k d below. all (suc k) d (omega arith)) (part_back (program_header h) _ (rw (length-program_header h) refl) p),
    ) refl

-- The first bytes are the original's.

pub same_byte : (file old : List ℕ) (k : ℕ) → k < 16 → take 16 file ≡ take 16 old → slice_index file k ≡ slice_index old k
same_byte file old k within same = sym (get_or-take 16 file k 0 within) ∙ ap (λ z. slice_index z k) same ∙ get_or-take 16 old k 0 within

pub same_magic : (file old : List ℕ) → 4 ≤ length file → 4 ≤ length old → take 16 file ≡ take 16 old → ei_magic file ≡ ei_magic old
unfolding word_at
same_magic file old long old_long same =
    let number : big_number 4 file ≡ big_number 4 old = sym (big_from-take 0 4 16 file (omega arith)) ∙ ap (big_number 4) same ∙ big_from-take 0 4 16 old (omega arith) in
    rw (le-leb 4 (length file) long, le-leb 4 (length old) old_long) number

-- What the header says: the first bytes, the fields behind them, and the program headers that were written, where
-- their fields are words.

pub record HeaderFacts (original : List ℕ) (added : List AddedSegment) (entry sections : ℕ) (file : List ℕ) : Type 0 where
  pub ident : take 16 file ≡ take 16 original
  pub kinds : FieldsAt 2 file 16 0 (2 ∷ 2 ∷ [])
  pub words : FieldsAt 4 file 20 0 (1 ∷ entry ∷ 52 ∷ sections ∷ word_at original 36 ∷ [])
  pub sizes : FieldsAt 2 file 40 0 (52 ∷ 32 ∷ length (segment_headers original added) ∷ 40 ∷ section_count original ∷ section_names original ∷ [])
  pub entries : All HasFields (segment_headers original added) → program_headers file ≡ segment_headers original added

pub header_facts : (original : List ℕ) (added : List AddedSegment) (entry : ℕ) (notes : List ℕ) → CanWrite original added notes
    → HeaderFacts original added entry (sections_at original added notes) (written original added entry notes)
unfolding words_bytes halves_bytes word_at half_at program_headers
header_facts original added entry notes can =
    let file = written original added entry notes in
    let s = written_stands original added entry notes can in
    let old = whole_header original (accepted original can.sound) in
    let few = few-segment_headers original added notes can in
    let t = take 16 original in
    let size : length t ≡ 16 = length-take-le 16 original (omega (arith, old)) in
    let p4 = part_front _ (flat_map program_header (segment_headers original added)) s.headers in
    let p3 = part_front _ _ p4 in
    let p2 = part_front _ _ p3 in
    let first : Part file 0 t = part_front t _ p2 in
    let ident : take 16 file ≡ t = rw size at (take_part first) in
    let words = fields_at 4 file 20 0 (1 ∷ entry ∷ 52 ∷ sections_at original added notes ∷ word_at original 36 ∷ [])
    (part_back (t ++ halves_bytes (2 ∷ 2 ∷ [])) _ (simp (length-append, length-take) (omega arith)) p3) in
    let sizes = fields_at 2 file 40 0 (52 ∷ 32 ∷ length (segment_headers original added) ∷ 40 ∷ section_count original ∷ section_names original ∷ [])
    (part_back _ _ (simp (length-append, length-words_bytes, length-halves_bytes) (omega arith)) p4) in
    let table = part_back {to = 52} _ (flat_map program_header (segment_headers original added)) (simp (length-append, length-words_bytes, length-halves_bytes) (omega arith)) s.headers in
    record {
      ident = ident;
      kinds = fields_at 2 file 16 0 (2 ∷ 2 ∷ []) (part_back t _ (rw size refl) p2);
      words = words;
      sizes = sizes;
      entries = λ fields. rw (words.1.1.0 (omega arith), sizes.1.1.0 (omega (arith, few))) (headers_read file 52 _ fields table);
    }

-- The fields of program headers are words.
use Rattle.elf32_write.proofs.Common.{get_or, ℕ, zero, suc, ◌+◌, ◌^◌, ◌<◌, Bool, true, false, cond, nat_le, List, [], ◌∷◌, length, map, drop, Some, None, arith, lit<, All, cond_both, filter, All-append, All-drop, All-cons, All-nil, big_number, ProgramHeader, word_at, half_at, headers_from, program_headers, e_phoff, e_phnum, is_text, section_count, next_page, AddedSegment, segments_end, added_header, added_headers, is_carried, carried_on, delta_in, original_end, segment_headers, CanWrite, be_field, unwrap_or, All-map, All-filter, big_from-lt, e_shnum, has_sections, not_executable, AreNumbers, HasWords}
use Rattle.std.specs.Int.Bits.{and_lt}
use Rattle.elf32_sparc.specs.Header.{program_header}
use Rattle.elf32_sparc.proofs.Ranges.{byte_below}
use Rattle.elf32_write.proofs.Segments.{segments_end-from, offsets_fit}

-- each field of a header fits its word
abbrev pub HasFields : ProgramHeader → Type 0
HasFields h =
    (h.p_type < 2 ^ 32) × (h.p_offset < 2 ^ 32) × (h.p_vaddr < 2 ^ 32) × (h.p_paddr < 2 ^ 32) × (h.p_filesz < 2 ^ 32)
    × (h.p_memsz < 2 ^ 32) × (h.p_flags < 2 ^ 32) × (h.p_align < 2 ^ 32)

-- a field that is there, or is not
there_below : (there : Bool) (n most : ℕ) → n < most → unwrap_or (cond there (Some n) None) 0 < most
there_below true n most below = below
there_below false n most below = omega arith

module _ (file : List ℕ) (bytes : All (λ byte. byte < 256) file) where
  field_below : (n at : ℕ) → unwrap_or (be_field n file at) 0 < 256 ^ n
  field_below n at =
      there_below (nat_le (at + n) (length file)) (big_number n (drop at file)) (256 ^ n)
      (big_from-lt 0 n (drop at file) (byte_below (drop at file) (All-drop (λ byte. byte < 256) at file bytes)))

  pub few_sections : section_count file < 2 ^ 16
  unfolding half_at
  few_sections = cond_both (has_sections file) (e_shnum file) 0 (λ n. n < 2 ^ 16) (λ _. field_below 2 48) (λ _. omega arith)

  headers_fields : (at n : ℕ) → All HasFields (headers_from file at n)
  unfolding program_header word_at
  headers_fields at zero = All-nil HasFields
  headers_fields at (suc n) =
      let w = field_below 4 in
      All-cons HasFields (program_header file at) (headers_from file (at + 32) n)
      (w at, w (at + 4), w (at + 8), w (at + 12), w (at + 16), w (at + 20), w (at + 24), w (at + 28)) (headers_fields (at + 32) n)

carried_fields : (delta : ℕ) (h : ProgramHeader) → HasFields h → HasFields (carried_on delta h)
carried_fields delta h f =
    let flags = cond_both (is_text h) (not_executable h.p_flags) h.p_flags (λ n. n < 2 ^ 32)
    (λ _. and_lt 32 h.p_flags 0xfffffffe f.6 (lit< tt)) (λ _. f.6) in
    (f.0, omega arith, f.2, f.3, f.4, f.5, flags, f.7)

added-fields : (end : ℕ) (added : List AddedSegment) → segments_end end added < 2 ^ 32 → All HasWords added → All HasFields (added_headers end added)
added-fields end [] fits words = All-nil HasFields
added-fields end (s ∷ added) fits words =
    let rest = segments_end-from (next_page end + length s.bytes) added in
    let here : HasWords s = words zero s (omega arith) in
    All-cons HasFields (added_header (next_page end) s) (added_headers (next_page end + length s.bytes) added)
    (omega arith, omega (arith, rest, fits), here.0, here.0, omega (arith, rest, fits), here.1, here.2, omega arith)
    (added-fields (next_page end + length s.bytes) added fits (λ k d below. words (suc k) d (omega arith)))

pub segments-fields : (original : List ℕ) (added : List AddedSegment) (entry : ℕ) (notes : List ℕ) → CanWrite original added notes → AreNumbers original added entry → All HasFields (segment_headers original added)
unfolding program_headers
segments-fields original added entry notes can are =
    let hs = headers_fields original are.bytes (e_phoff original) (e_phnum original) in
    let kept = filter is_carried (program_headers original) in
    All-append HasFields (map (carried_on (delta_in original)) kept) (added_headers (original_end original) added)
    (All-map HasFields (carried_on (delta_in original)) kept (λ k d below. carried_fields _ (get_or kept k d) (All-filter is_carried HasFields _ hs k d below)))
    (added-fields (original_end original) added (omega (arith, offsets_fit original added notes can)) are.words)

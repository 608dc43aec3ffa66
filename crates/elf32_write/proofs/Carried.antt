-- What is loaded of a written file: the entries of the original as they are carried on, then the segments that
-- are added.
use Rattle.elf32_write.proofs.Common.{◌^◌, ◌≡◌, ℕ, zero, suc, ◌+◌, ◌<◌, true, List, [], ◌∷◌, ◌++◌, length, map, refl, arith, All, filter, lt-ltb, map-append, nat_tests, ProgramHeader, program_headers, is_loadable, loadable, mapping_of, has_bytes_outside, accepted, next_page, padded_to, AddedSegment, added_headers, is_carried, carried_on, delta_in, original_end, segment_headers, headers, locator, with_segments, ◌-◌, ◌%◌, ◌≤◌, false, take, drop, ap, ◌∙◌, list_any, cond_both, or_parts, leaves_file, filter-append, mappings, file_bytes, mapping_added, SegmentsAreMapped, take-take, drop-drop, drop-take, kept}
use Rattle.elf32_write.proofs.Part.{Part, take_part}
use Rattle.elf32_write.proofs.Segments.{delta-to}
use Rattle.elf32_write.proofs.Fields.{segments-fields}
use Rattle.elf32_write.proofs.WrittenParts.{front, part_segment, length-segment, written_stands, header_facts}

-- an entry to load is carried on
is_carried-loadable : (h : ProgramHeader) → is_loadable h ≡ true → is_carried h ≡ true
is_carried-loadable h loads = grind (arith, nat_tests)

pub loadable-carried : (delta : ℕ) (hs : List ProgramHeader) → filter is_loadable (map (carried_on delta) (filter is_carried hs)) ≡ map (carried_on delta) (filter is_loadable hs)
loadable-carried delta [] = refl
loadable-carried delta (h ∷ hs) = grind (arith, is_carried-loadable h, loadable-carried delta hs)

loadable-added : (end : ℕ) (added : List AddedSegment) → All (λ s. 0 < s.memsz) added → filter is_loadable (added_headers end added) ≡ added_headers end added
loadable-added end [] filled = refl
loadable-added end (s ∷ added) filled =
    let some : 0 < s.memsz = filled zero s (omega arith) in
    rw (lt-ltb 0 s.memsz some, loadable-added (next_page end + length s.bytes) added (λ k d below. filled (suc k) d (omega arith))) refl

pub loadable-segment_headers : (original : List ℕ) (added : List AddedSegment) → All (λ s. 0 < s.memsz) added
    → loadable (segment_headers original added)
    ≡ map (carried_on (delta_in original)) (loadable (program_headers original)) ++ added_headers (original_end original) added
loadable-segment_headers original added filled =
    rw (filter-append, loadable-carried, loadable-added (original_end original) added filled) refl

-- ---- what the original's segments map

-- a part of the first bytes stands where those bytes stand
part-within : (xs : List ℕ) (at n size : ℕ) → at + n ≤ size → take n (drop at (take size xs)) ≡ take n (drop at xs)
part-within xs at n size fits =
    let split : size ≡ at + (size - at) = omega arith in
    rw (split, drop-take, take-take n (size - at) (drop at xs) (omega arith)) refl

module _ (file new : List ℕ) (delta : ℕ) (whole : take (length file) (drop delta new) ≡ file) (small : length file + delta < 2 ^ 32) where
  -- bytes of the original stand `delta` further on
  bytes-at : (offset n : ℕ) → (0 < n → offset + n ≤ length file) → take n (drop ((offset + delta) % 2 ^ 32) new) ≡ take n (drop offset file)
  bytes-at offset zero fits = refl
  bytes-at offset (suc k) fits =
      let within : offset + suc k ≤ length file = fits (omega arith) in
      let here : (offset + delta) % 2 ^ 32 ≡ delta + offset = omega arith in
      ap (λ at. take (suc k) (drop at new)) here
      ∙ rw (← drop-drop offset delta new, ← part-within (drop delta new) offset (suc k) (length file) within, whole) refl

  -- a carried entry maps what the original's does, no longer executable where it is the text
  carried-mapping : (h : ProgramHeader) → leaves_file (length file) h ≡ false → is_loadable h ≡ true → mapping_of new (carried_on delta h) ≡ kept (mapping_of file h)
  carried-mapping h none is =
      let bytes : file_bytes new (carried_on delta h) ≡ file_bytes file h = bytes-at h.p_offset h.p_filesz (λ some. grind (arith, nat_tests)) in
      rw (bytes, is) refl

  carried-mappings : (hs : List ProgramHeader) → list_any (leaves_file (length file)) hs ≡ false
      → map (mapping_of new) (map (carried_on delta) (loadable hs)) ≡ map kept (map (mapping_of file) (loadable hs))
  carried-mappings [] none = refl
  carried-mappings (h ∷ hs) none =
      let parts = or_parts (leaves_file (length file) h) (list_any (leaves_file (length file)) hs) none in
      let later = carried-mappings hs parts.1 in
      cond_both (is_loadable h) (h ∷ loadable hs) (loadable hs)
      (λ ls. map (mapping_of new) (map (carried_on delta) ls) ≡ map kept (map (mapping_of file) ls))
      (λ is. rw (later, carried-mapping h parts.0 is) refl) (λ _. later)

-- ---- what the added segments map

mapped-added : (added : List AddedSegment) (file xs : List ℕ) (end : ℕ) → length xs ≡ end
    → ((at : ℕ) (part : List ℕ) → Part (with_segments xs added) at part → Part file at part)
    → map (mapping_of file) (added_headers end added) ≡ map mapping_added added
mapped-added [] file xs end size within = refl
mapped-added (s ∷ added) file xs end size within =
    rw (
      ← size,
      take_part (within _ _ (part_segment s added xs)),
      mapped-added added file (padded_to (next_page (length xs)) xs ++ s.bytes) _ (length-segment s xs) within,
    ) refl

-- ---- what the file maps

pub segments_are_mapped : SegmentsAreMapped
unfolding mappings has_bytes_outside
segments_are_mapped original added entry notes can are filled =
    let s = written_stands original added entry notes can in
    rw (
      (header_facts original added entry notes can).entries (segments-fields original added entry notes can are),
      loadable-segment_headers original added filled,
      map-append,
      carried-mappings original _ (delta_in original) (take_part s.original) (omega (arith, delta-to original added notes can, can.limit))
          (program_headers original) (accepted original can.sound).segment_file,
      mapped-added added _ (front (headers original added entry notes) (locator original added notes) original (delta_in original)) _ s.start s.segments,
    ) refl

-- The segments that are added, one after the other; where the original stands, and that all offsets fit.
use Rattle.elf32_write.proofs.Common.{◌≡◌, ℕ, zero, suc, ◌+◌, ◌*◌, ◌≤◌, ◌<◌, List, [], ◌∷◌, ◌++◌, length, map, filter, take, drop, get_or, length-append, refl, sym, ap, ◌∙◌, append-nil, arith, flat_map, sum_by, map-append, length-map, sum_by-cons, length-filter, count_by-le-length, flat_map-append, next_page, padded_to, headers_from, program_headers, e_phoff, e_phnum, accepted, AddedSegment, segment_seen, segments_end, added_header, added_headers, is_carried, program_header, segment_headers, with_segments, CanWrite, ◌^◌, max, All, fold, ProgramHeader, loadable, segment_of, image_of, delta_in, original_end, notes_at, next_multiple_of, take_more, take-append-drop, next_word, few_headers, aligned, fold-map}
use Rattle.elf32_write.specs.declared.segment.NewSegment.{NewSegment}
use Rattle.elf32_write.proofs.Powers.{greatest_above}

-- ---- one more at the end

pub segments_end-append : (end : ℕ) (xs ys : List AddedSegment) → segments_end end (xs ++ ys) ≡ segments_end (segments_end end xs) ys
segments_end-append end [] ys = refl
segments_end-append end (x ∷ xs) ys = segments_end-append (next_page end + length x.bytes) xs ys

pub added_headers-append : (end : ℕ) (xs ys : List AddedSegment) → added_headers end (xs ++ ys) ≡ added_headers end xs ++ added_headers (segments_end end xs) ys
added_headers-append end [] ys = refl
added_headers-append end (x ∷ xs) ys = ap (λ z. added_header (next_page end) x ∷ z) (added_headers-append (next_page end + length x.bytes) xs ys)

pub with_segments-append : (file : List ℕ) (xs ys : List AddedSegment) → with_segments file (xs ++ ys) ≡ with_segments (with_segments file xs) ys
with_segments-append file [] ys = refl
with_segments-append file (x ∷ xs) ys = with_segments-append (padded_to (next_page (length file)) file ++ x.bytes) xs ys

-- ---- where they end

pub segments_end-from : (end : ℕ) (xs : List AddedSegment) → end ≤ segments_end end xs
segments_end-from end [] = omega arith
segments_end-from end (x ∷ xs) = let later = segments_end-from (next_page end + length x.bytes) xs in omega arith

pub segments_end-to : (end : ℕ) (xs : List AddedSegment) → segments_end end xs ≤ end + 4095 * length xs + sum_by (λ s. length s.bytes) xs
segments_end-to end [] = omega arith
segments_end-to end (x ∷ xs) =
    omega (arith, segments_end-to (next_page end + length x.bytes) xs, sum_by-cons (λ s. length s.bytes) x xs)

-- the next page, as std has it
pub page_is : (n : ℕ) → next_multiple_of n 4096 ≡ next_page n
page_is n = omega arith

pub word_is : (n : ℕ) → next_multiple_of n 4 ≡ next_word n
word_is n = omega arith

-- ---- the loops over them, one turn more

module _ (added : List NewSegment) (i : ℕ) (x : NewSegment) (below : i < length added) (is : x ≡ get_or added i x) where
  abbrev so_far : List AddedSegment
  so_far = map segment_seen (take i added)

  -- the segments up to one more
  seen_more : map segment_seen (take (i + 1) added) ≡ so_far ++ segment_seen x ∷ []
  seen_more = rw (take_more added i x below, map-append, ← is) refl

  module _ (end file_end : ℕ) (at : file_end ≡ segments_end end (map segment_seen (take i added))) where
    pub end_more : segments_end end (map segment_seen (take (i + 1) added)) ≡ next_multiple_of file_end 4096 + length x.bytes.items
    end_more = rw (seen_more, segments_end-append, ← at) (omega arith)

    -- its bytes end where all do, or before
    pub seen_ends : next_multiple_of file_end 4096 + length x.bytes.items ≤ segments_end end (map segment_seen added)
    seen_ends =
        let split = ap (map segment_seen) (sym (take-append-drop (i + 1) added)) ∙ map-append segment_seen (take (i + 1) added) (drop (i + 1) added) in
        let later = segments_end-from (segments_end end (map segment_seen (take (i + 1) added))) (map segment_seen (drop (i + 1) added)) in
        rw (split, segments_end-append) (omega (arith, later, end_more))

    pub headers_more : flat_map program_header (added_headers end (map segment_seen (take (i + 1) added)))
        ≡ flat_map program_header (added_headers end so_far) ++ program_header (added_header (next_multiple_of file_end 4096) (segment_seen x))
    headers_more = rw (seen_more, added_headers-append, flat_map-append, append-nil, ← at, page_is file_end) refl

  pub bytes_more : (file : List ℕ) → with_segments file (map segment_seen (take (i + 1) added))
      ≡ padded_to (next_page (length (with_segments file so_far))) (with_segments file so_far) ++ x.bytes.items
  bytes_more file = rw (seen_more, with_segments-append) refl

-- ---- how many headers

pub length-added_headers : (end : ℕ) (xs : List AddedSegment) → length (added_headers end xs) ≡ length xs
length-added_headers end [] = refl
length-added_headers end (x ∷ xs) = ap suc (length-added_headers (next_page end + length x.bytes) xs)

pub length-segment_headers : (original : List ℕ) (added : List NewSegment)
    → length (segment_headers original (map segment_seen added))
    ≡ length (filter is_carried (program_headers original)) + length added
length-segment_headers original added =
    simp (length-append, length-map, length-added_headers)

length-headers_from : (file : List ℕ) (at n : ℕ) → length (headers_from file at n) ≡ n
length-headers_from file at zero = refl
length-headers_from file at (suc n) = ap suc (length-headers_from file (at + 32) n)

length-program_headers : (file : List ℕ) → length (program_headers file) ≡ e_phnum file
unfolding program_headers
length-program_headers file = length-headers_from file (e_phoff file) (e_phnum file)

-- at most 64 are carried on, and eight added
pub few-segment_headers : (original : List ℕ) (added : List AddedSegment) (notes : List ℕ) → CanWrite original added notes
    → length (segment_headers original added) ≤ 72
few-segment_headers original added notes can =
    let headers = program_headers original in
    let few = few_headers original (accepted original can.sound) in
    let carried = length-filter is_carried headers in
    let most = count_by-le-length is_carried headers in
    simp (length-append, length-map, length-added_headers) (omega (arith, carried, most, length-program_headers original, few, can.few))

-- ---- where the original stands

greatest-to : (headers : List ProgramHeader) (least : ℕ) → least ≤ 2 ^ 20 → All (λ h. h.p_align ≤ 2 ^ 20) headers
    → fold (λ most header. max most header.p_align) least headers ≤ 2 ^ 20
greatest-to [] least small all = small
greatest-to (h ∷ headers) least small all =
    greatest-to headers _ (omega (arith, all zero h (omega arith))) (λ k d below. all (suc k) d (omega arith))

pub delta-from : (original : List ℕ) → 4096 ≤ delta_in original
delta-from original = (greatest_above (loadable (program_headers original)) 4096).0

pub delta-to : (original : List ℕ) (added : List AddedSegment) (notes : List ℕ) → CanWrite original added notes → delta_in original ≤ 2 ^ 20
delta-to original added notes can =
    greatest-to (loadable (program_headers original)) 4096 (omega arith) (aligned original (accepted original can.sound))

-- as the image has it
pub delta-image : (original : List ℕ) → fold (λ most segment. max most segment.align) 4096 (image_of original).segments ≡ delta_in original
unfolding image_of
delta-image original = fold-map (λ most segment. max most segment.align) segment_of 4096 (loadable (program_headers original))

-- all offsets fit their words
pub offsets_fit : (original : List ℕ) (added : List AddedSegment) (notes : List ℕ) → CanWrite original added notes
    → notes_at original added + length notes < 1544 * 2 ^ 20
offsets_fit original added notes can =
    omega (arith, segments_end-to (original_end original) added, delta-to original added notes can, can.few, can.small)

-- the notes stand behind the locator's page
pub notes-beyond : (original : List ℕ) (added : List AddedSegment) → 4096 ≤ notes_at original added
notes-beyond original added =
    omega (arith, segments_end-from (original_end original) added, delta-from original)

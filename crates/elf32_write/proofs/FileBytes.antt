-- A written file is made of bytes, where its parts are.
use Rattle.elf32_write.proofs.Common.{drop, e_shoff, ◌*◌, cond_both, nat_eq, take, All-drop, moved, ℕ, zero, suc, ◌+◌, ◌-◌, ◌%◌, ◌^◌, ◌<◌, List, [], ◌∷◌, ◌++◌, length, slice_index, arith, All, flat_map, range_with_len, All-nil, All-cons, All-append, big_bytes, ProgramHeader, word_at, section_count, words_bytes, halves_bytes, padded_to, next_page, AddedSegment, program_header, file_header, section_copy, section_entry, section_table, delta_in, notes_at, sections_at, locator_at, segment_headers, locator, with_segments, written, common_steps, All-take, All-replicate, bytes_high_first, AreBytes, FileIsBytes}

high_first-bytes : (count n : ℕ) → AreBytes (bytes_high_first count n)
high_first-bytes zero n = All-nil (λ b. b < 256)
high_first-bytes (suc count) n = All-cons (λ b. b < 256) _ _ (low count) (high_first-bytes count n)
  where
    low : (k : ℕ) → slice_index (bytes_high_first (suc k) n) 0 < 256
    low zero = omega arith
    low (suc k) = omega arith

-- what each item gives is bytes
flat_map-bytes : {X : Type 0} (f : X → List ℕ) → ((x : X) → AreBytes (f x)) → (xs : List X)
    → AreBytes (flat_map f xs)
flat_map-bytes f each [] = All-nil (λ b. b < 256)
flat_map-bytes f each (x ∷ xs) = All-append (λ b. b < 256) (f x) (flat_map f xs) (each x) (flat_map-bytes f each xs)

pub words-bytes : (words : List ℕ) → AreBytes (words_bytes words)
unfolding words_bytes
words-bytes words = flat_map-bytes (big_bytes 4) (high_first-bytes 4) words

halves-bytes : (halves : List ℕ) → AreBytes (halves_bytes halves)
unfolding halves_bytes
halves-bytes halves = flat_map-bytes (big_bytes 2) (high_first-bytes 2) halves

-- padded bytes, with more after them
part-bytes : (offset : ℕ) (bytes more : List ℕ) → AreBytes bytes → AreBytes more → AreBytes (padded_to offset bytes ++ more)
unfolding padded_to
part-bytes offset bytes more all rest =
    let zeros = All-replicate (λ b. b < 256) (offset - length bytes) 0 (omega arith) in grind (arith, common_steps)

program_header-bytes : (h : ProgramHeader) → AreBytes (program_header h)
unfolding program_header
program_header-bytes h = words-bytes _

file_header-bytes : (original : List ℕ) (entry segments sections : ℕ) → AreBytes original → AreBytes (file_header original entry segments sections)
file_header-bytes original entry segments sections all =
    let both = All-append (λ b. b < 256) in
    both _ _ (both _ _ (both (take 16 original) _ (All-take (λ b. b < 256) 16 original all) (halves-bytes _)) (words-bytes _)) (halves-bytes _)

segments-bytes : (added : List AddedSegment) (file : List ℕ) → All (λ s. AreBytes s.bytes) added → AreBytes file → AreBytes (with_segments file added)
segments-bytes [] file all before = before
segments-bytes (s ∷ added) file all before =
    segments-bytes added _ (λ k d below. all (suc k) d (omega arith)) (part-bytes (next_page (length file)) file s.bytes before (all zero s (omega arith)))

copy-bytes : (delta : ℕ) (entry : List ℕ) → AreBytes entry → AreBytes (section_copy delta entry)
unfolding section_copy
copy-bytes delta entry all =
    let both = All-append (λ b. b < 256) in
    let front = both (take 16 entry) _ (All-take (λ b. b < 256) 16 entry all) (high_first-bytes 4 ((word_at entry 16 + delta) % 2 ^ 32)) in
    cond_both (nat_eq (word_at entry 4) 0) entry (moved delta entry) AreBytes (λ _. all) (λ _. both _ _ front (All-drop (λ b. b < 256) 20 entry all))

table-bytes : (delta : ℕ) (original : List ℕ) → AreBytes original → AreBytes (section_table delta original)
unfolding section_table
table-bytes delta original all =
    flat_map-bytes (λ number. section_copy delta (section_entry original number))
    (λ number. copy-bytes delta _ (All-take (λ b. b < 256) 40 (drop (e_shoff original + 40 * number) original) (All-drop (λ b. b < 256) _ original all)))
    (range_with_len 0 (section_count original))

pub file_is_bytes : FileIsBytes
unfolding written
file_is_bytes original added entry notes all segments note =
    let hs = segment_headers original added in
    let front = file_header-bytes original entry (length hs) (sections_at original added notes) all in
    let header = All-append (λ b. b < 256) _ _ front (flat_map-bytes program_header program_header-bytes hs) in
    let whole = part-bytes (delta_in original) _ original (part-bytes locator_at _ (locator original added notes) header (words-bytes _)) all in
    let noted = part-bytes (notes_at original added) _ notes (segments-bytes added _ segments whole) note in
    All-append (λ b. b < 256) _ (section_table (delta_in original) original) noted (table-bytes (delta_in original) original all)

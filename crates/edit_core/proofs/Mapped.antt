-- The words of the code in the memory of a written file.
use Rattle.edit_core.proofs.Common.{◌≡◌, ℕ, zero, suc, ◌+◌, ◌-◌, ◌*◌, ◌^◌, ◌<◌, ◌≤◌, Bool, ◌&&◌, nat_le, List, [], ◌∷◌, ◌++◌, length, drop, map, slice_index, Some, None, refl, arith, All, find, le-leb, lt-leb, find-append, nat_tests, big_number, ProgramHeader, program_headers, loadable, Mapping, mapping_of, mappings, image_of, segment_of, words_bytes, kept, max, fold, big_number-reads_back, segment_end, word_mapped, if_any}
use Rattle.std.proofs.Math.Bool.{and-false}
use Rattle.elf32_write.proofs.Loads.{ends-below}
use Rattle.edit_core.proofs.Fronts.{past_any}

abbrev covers : ℕ → Mapping → Bool
covers address m = nat_le m.start address && nat_le (address + 4) (m.start + m.length)

-- no entry below an address covers it
none_covers : (file : List ℕ) (hs : List ProgramHeader) (n address : ℕ)
    → fold (λ end segment. max end (segment_end segment)) n (map segment_of hs) ≤ address
    → find (covers address) (map kept (map (mapping_of file) hs)) ≡ None
none_covers file [] n address above = refl
none_covers file (h ∷ hs) n address above =
    let top = (ends-below hs (max n (h.p_vaddr + h.p_memsz)) address above).0 in
    rw (lt-leb (address + 4) (h.p_vaddr + h.p_memsz) (omega arith), and-false (nat_le h.p_vaddr address))
    (none_covers file hs (max n (h.p_vaddr + h.p_memsz)) address above)

pub original_covers : (original : List ℕ) (address : ℕ) → (image_of original).base ≤ address
    → find (covers address) (map kept (mappings original)) ≡ None
unfolding mappings image_of
original_covers original address above =
    none_covers original (loadable (program_headers original)) 0 address (omega arith)

-- a word among words as bytes
pub word_among : (words : List ℕ) (word : ℕ) → word < length words → All (λ w. w < 2 ^ 32) words
    → big_number 4 (drop (4 * word) (words_bytes words)) ≡ slice_index words word
unfolding words_bytes
word_among [] word inside all = absurd (omega arith)
word_among (w ∷ words) zero inside all = big_number-reads_back 4 w (words_bytes words) (all zero w (omega arith))
word_among (w ∷ words) (suc word) inside all =
    let e : 4 * suc word ≡ suc (suc (suc (suc (4 * word)))) = omega arith in
    cc (e, word_among words word (omega arith) (λ k d below. all (suc k) d (omega arith)))

-- the words of code that is mapped above the original and the cells, right behind a table
pub code_mapped : (original file : List ℕ) (words : List ℕ) (count : ℕ) (cells table code : Mapping) (more : List Mapping)
    → mappings file ≡ map kept (mappings original) ++ (if_any count cells ++ table ∷ code ∷ more)
    → All (λ w. w < 2 ^ 32) words → (image_of original).base ≤ table.start → cells.start + cells.length ≤ table.start
    → table.start + table.length ≡ code.start → code.length ≡ 4 * length words → code.first ≡ words_bytes words
    → (n : ℕ) → n < length words → word_mapped file (code.start + 4 * n) ≡ Some (slice_index words n)
code_mapped original file words count cells table code more all fits base before behind size first n inside =
    let address : ℕ = code.start + 4 * n in
    let here : address - code.start ≡ 4 * n = omega arith in
    let is_found : find (covers address) (mappings file) ≡ Some code =
    rw (
      all,
      find-append (covers address) (map kept (mappings original)),
      original_covers original address (omega arith),
      past_any (covers address) count cells (table ∷ code ∷ more) (λ some. grind (arith, nat_tests)),
      lt-leb (address + 4) (table.start + table.length) (omega arith),
      and-false (nat_le table.start address),
      le-leb code.start address (omega arith),
      le-leb (address + 4) (code.start + code.length) (omega arith),
    ) refl in
    cc (is_found, here, first, word_among words n inside fits)

-- The section table: an entry more, and how long it is.
use Rattle.elf32_write.proofs.Common.{nat_eq, ap, ◌∙◌, ◌≡◌, ℕ, ◌+◌, ◌*◌, ◌<◌, ◌≤◌, List, [], ◌∷◌, ◌++◌, length, get_or, take, append-nil, length-append, refl, arith, cond_both, flat_map, range_with_len, length-take, length-bytes_high_first, word_at, section_count, moved, section_copy, section_entry, section_table, common_steps, flat_map-append, add-one, length-drop}
use Rattle.std.proofs.lemmas.List.FromFn.{length-range_with_len}
use Rattle.elf32_sparc.proofs.Functions.{one_more}

pub entries-more : (h : ℕ → List ℕ) (n : ℕ) → flat_map h (range_with_len 0 (n + 1)) ≡ flat_map h (range_with_len 0 n) ++ h n
entries-more h n =
    ap (λ k. flat_map h (range_with_len 0 k)) (add-one n) ∙ ap (flat_map h) (one_more 0 n n (omega arith))
    ∙ rw (flat_map-append, append-nil) refl

-- ---- how many bytes it has

length-section_copy : (delta : ℕ) (entry : List ℕ) → length entry ≤ 40 → length (section_copy delta entry) ≤ 40
unfolding section_copy
length-section_copy delta entry few =
    cond_both (nat_eq (word_at entry 4) 0) entry (moved delta entry) (λ e. length e ≤ 40) (λ _. few)
    (λ _. simp (length-append, length-take, length-drop, length-bytes_high_first) (omega arith))

length-entries : (h : ℕ → List ℕ) → ((n : ℕ) → length (h n) ≤ 40) → (ns : List ℕ) → length (flat_map h ns) ≤ 40 * length ns
length-entries h each [] = omega arith
length-entries h each (n ∷ ns) = simp length-append (omega (arith, each n, length-entries h each ns))

pub length-section_table : (delta : ℕ) (original : List ℕ) → length (section_table delta original) ≤ 40 * section_count original
unfolding section_table
length-section_table delta original =
    let copy = λ (n : ℕ). section_copy delta (section_entry original n) in
    let short = λ (n : ℕ). length-section_copy delta (section_entry original n) (simp length-take (omega arith)) in
    let count = section_count original in
    omega (arith, length-entries copy short (range_with_len 0 count), length-range_with_len 0 count)

-- fields that are added one by one
pub fields-more : (field : ℕ → List ℕ) (numbers : List ℕ) (k : ℕ) (old out bytes new : List ℕ) → k < length numbers
    → out ≡ old ++ flat_map field (take k numbers) → bytes ≡ field (get_or numbers k 0) → new ≡ out ++ bytes
    → new ≡ old ++ flat_map field (take (k + 1) numbers)
fields-more field numbers k old out bytes new within so_far is more = grind (arith, common_steps)

-- The table of program headers of a file without a fault.
use Rattle.elf32_sparc.proofs.Common.{◌≡◌, ℕ, zero, suc, ◌+◌, ◌-◌, ◌*◌, ◌^◌, ◌<◌, ◌≤◌, true, false, not, nat_eq, List, [], ◌∷◌, ◌++◌, length, sym, ap, ◌∙◌, append_assoc, append-nil, arith, All, inl, inr, list_any, or_cases, or_parts, and_parts, ltb-false, leb-true, eqb-true, not-false, ProgramHeader, e_phnum, program_header, headers_from, program_headers, loadable, is_short, has_bad_table, has_misaligned, is_aligned}
use Rattle.elf32_sparc.proofs.Accepted.{Accepted}
use Rattle.elf32_sparc.proofs.Surveys.{headers_from-more}

pub few_headers : (file : List ℕ) → Accepted file → e_phnum file ≤ 64
unfolding has_bad_table
few_headers file ok = ltb-false 64 (e_phnum file) (or_parts _ _ (or_parts _ _ ok.header.headers).0).1

pub whole_header : (file : List ℕ) → Accepted file → 52 ≤ length file
unfolding is_short
whole_header file ok = ltb-false (length file) 52 ok.header.short

small_align : (h : ProgramHeader) → is_aligned h ≡ true → h.p_align ≤ 2 ^ 20
small_align h holds = elim (or_cases (nat_eq h.p_align 0) _ holds) [
  | inl is ↦ let none = eqb-true h.p_align 0 is in omega arith
  | inr both ↦ leb-true h.p_align (2 ^ 20) (and_parts _ _ (and_parts _ _ both).0).1
]

small_aligns : (hs : List ProgramHeader) → list_any (λ h. not (is_aligned h)) hs ≡ false → All (λ h. h.p_align ≤ 2 ^ 20) hs
small_aligns [] none k d below = absurd (omega arith)
small_aligns (h ∷ hs) none zero d below = small_align h (not-false _ (or_parts _ _ none).0)
small_aligns (h ∷ hs) none (suc k) d below = small_aligns hs (or_parts _ _ none).1 k d (omega arith)

pub aligned : (file : List ℕ) → Accepted file → All (λ h. h.p_align ≤ 2 ^ 20) (loadable (program_headers file))
unfolding has_misaligned
aligned file ok = small_aligns (loadable (program_headers file)) ok.align

-- reading one after the other
pub headers-more : (file : List ℕ) (xs ys whole : List ProgramHeader) (h : ProgramHeader) (at count i : ℕ) → i < count → h ≡ program_header file (at + 32 * i) → ys ≡ xs ++ h ∷ [] → xs ++ headers_from file (at + 32 * i) (count - i) ≡ whole → ys ++ headers_from file (at + 32 * (i + 1)) (count - (i + 1)) ≡ whole
headers-more file xs ys whole h at count i below is more so_far =
    let hs = headers_from file (at + 32 * (i + 1)) (count - (i + 1)) in
    ap (λ z. z ++ hs) more ∙ append_assoc xs (h ∷ []) hs ∙ ap (λ z. xs ++ z ∷ hs) is
    ∙ ap (λ z. xs ++ z) (sym (headers_from-more file at count i below)) ∙ so_far

pub headers-all : (file : List ℕ) (xs whole : List ProgramHeader) (at count i : ℕ) → count ≤ i → xs ++ headers_from file at (count - i) ≡ whole → xs ≡ whole
headers-all file xs whole at count i end so_far =
    let none : count - i ≡ 0 = omega arith in
    sym (append-nil xs) ∙ ap (λ n. xs ++ headers_from file at n) (sym none) ∙ so_far

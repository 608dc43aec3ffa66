-- Zeros after the last byte change no word.
use Rattle.elf32_sparc.proofs.Common.{◌≡◌, ℕ, zero, suc, ◌+◌, ◌/◌, List, [], ◌∷◌, ◌++◌, drop, get_or, replicate, refl, sym, ap, ◌∙◌, get_or-drop, big_number, Words, ProgramHeader, file_bytes, words_of, text_from}

zeros : (count i zero_byte : ℕ) → get_or (replicate count zero_byte) i zero_byte ≡ zero_byte
zeros zero i z = refl
zeros (suc count) zero z = refl
zeros (suc count) (suc i) z = zeros count i z

pub padded : (xs : List ℕ) (count i : ℕ) → get_or (xs ++ replicate count 0) i 0 ≡ get_or xs i 0
padded [] count i = zeros count i 0
padded (x ∷ xs) count zero = refl
padded (x ∷ xs) count (suc i) = padded xs count i

-- bytes that are read the same have the same words
words_of-same : (count : ℕ) (xs ys : List ℕ) → ((i : ℕ) → get_or xs i 0 ≡ get_or ys i 0) → words_of count xs ≡ words_of count ys
words_of-same zero xs ys same = refl
words_of-same (suc count) xs ys same =
    let word : big_number 4 xs ≡ big_number 4 ys = rw (same 0, same 1, same 2, same 3) refl in
    let rest = words_of-same count (drop 4 xs) (drop 4 ys) (λ i. get_or-drop 4 xs i 0 ∙ (same (4 + i) ∙ sym (get_or-drop 4 ys i 0))) in
    ap (λ w. w ∷ words_of count (drop 4 xs)) word ∙ ap (λ ws. big_number 4 ys ∷ ws) rest

pub text_from-words : (file : List ℕ) (h : ProgramHeader) (words : List ℕ) → words ≡ words_of (h.p_memsz / 4) (file_bytes file h) → text_from file h ≡ record { start = h.p_vaddr; words = words }
unfolding text_from
text_from-words file h words is =
    let text : List ℕ → Words = λ ws. record { start = h.p_vaddr; words = ws } in
    ap text (words_of-same (h.p_memsz / 4) _ _ (padded (file_bytes file h) _) ∙ sym is)

-- Words, as bytes and back.
use Rattle.dump_file.proofs.Common.{◌≡◌, ℕ, zero, suc, ◌+◌, ◌*◌, ◌<◌, ◌≤◌, ◌^◌, List, [], ◌∷◌, ◌++◌, length, take, drop, get_or, refl, ap, sym, ◌∙◌, arith, All, drop-drop, length-drop, get_or-drop, take-append_seam, big_number, big_bytes, IsRead, big_number-reads_back, big_from-lt, words_bytes, words_of}
use Rattle.std.proofs.lemmas.Nat.{be_bytes_4, be_bytes_8}

abbrev pub AreBytes : List ℕ → Type 0
AreBytes bytes = (i : ℕ) → get_or bytes i 0 < 256

pub bytes_dropped : (n : ℕ) (bytes : List ℕ) → AreBytes bytes → AreBytes (drop n bytes)
bytes_dropped n bytes are = λ i. rw (get_or-drop) (are (n + i))

bytes_more : (byte : ℕ) (bytes : List ℕ) → byte < 256 → AreBytes bytes → AreBytes (byte ∷ bytes)
bytes_more byte bytes first are zero = first
bytes_more byte bytes first are (suc i) = are i

pub are_bytes : (bytes : List ℕ) → All (λ byte. byte < 256) bytes → AreBytes bytes
are_bytes [] all = λ i. omega arith
are_bytes (byte ∷ bytes) all =
    bytes_more byte bytes (all 0 0 (omega arith)) (are_bytes bytes (λ k d below. all (suc k) d (omega arith)))

front_bytes : (front rest : List ℕ) → AreBytes (front ++ rest) → AreBytes front
front_bytes [] rest are = λ i. omega arith
front_bytes (byte ∷ front) rest are = bytes_more byte front (are 0) (front_bytes front rest (λ i. are (suc i)))

-- a number is written as the bytes that it was read from
pub written_4 : (bytes : List ℕ) → 4 ≤ length bytes → AreBytes bytes
    → bytes ≡ big_bytes 4 (big_number 4 bytes) ++ drop 4 bytes
written_4 (a ∷ b ∷ c ∷ d ∷ rest) long are =
    let front = a ∷ b ∷ c ∷ d ∷ [] in
    let is = be_bytes_4 front (big_number 4 (front ++ rest)) refl (front_bytes front rest are) (omega arith) in
    ap (λ (front : List ℕ). front ++ rest) (sym is)
written_4 _ long are = absurd (omega arith)

pub written_8 : (bytes : List ℕ) → 8 ≤ length bytes → AreBytes bytes
    → bytes ≡ big_bytes 8 (big_number 8 bytes) ++ drop 8 bytes
written_8 (a ∷ b ∷ c ∷ d ∷ e ∷ f ∷ g ∷ h ∷ rest) long are =
    let front = a ∷ b ∷ c ∷ d ∷ e ∷ f ∷ g ∷ h ∷ [] in
    let is = be_bytes_8 front (big_number 8 (front ++ rest)) refl (front_bytes front rest are) (omega arith) in
    ap (λ (front : List ℕ). front ++ rest) (sym is)
written_8 _ long are = absurd (omega arith)

-- words are read from what was written of them
pub words_back : (words : List ℕ) → All (λ word. word < 2 ^ 32) words
    → words_of (words_bytes words) (length words) ≡ words
unfolding words_bytes words_of
words_back [] fit = refl
words_back (word ∷ words) fit =
    let first = big_number-reads_back 4 word (words_bytes words) (fit 0 0 (omega arith)) in
    let rest = words_back words (λ k d below. fit (suc k) d (omega arith)) in
    rw (first, rest) refl

-- and bytes are written of the words that were read from them
pub words_again : (count : ℕ) (bytes : List ℕ) → length bytes ≡ 4 * count → AreBytes bytes
    → bytes ≡ words_bytes (words_of bytes count)
unfolding words_bytes words_of
words_again zero [] long are = refl
words_again zero (byte ∷ bytes) long are = absurd (omega arith)
words_again (suc count) bytes long are =
    let here = written_4 bytes (omega arith) are in
    let size = length-drop 4 bytes in
    let rest = words_again count (drop 4 bytes) (omega arith) (bytes_dropped 4 bytes are) in
    here ∙ ap (λ (others : List ℕ). big_bytes 4 (big_number 4 bytes) ++ others) rest

pub length-words : (count : ℕ) (bytes : List ℕ) → length (words_of bytes count) ≡ count
unfolding words_of
length-words zero bytes = refl
length-words (suc count) bytes = let rest = length-words count (drop 4 bytes) in omega arith

fit_more : (word : ℕ) (words : List ℕ) → word < 2 ^ 32 → All (λ w. w < 2 ^ 32) words
    → All (λ w. w < 2 ^ 32) (word ∷ words)
fit_more word words first fit zero d below = first
fit_more word words first fit (suc k) d below = fit k d (omega arith)

pub words_fit : (count : ℕ) (bytes : List ℕ) → AreBytes bytes → All (λ word. word < 2 ^ 32) (words_of bytes count)
unfolding words_of
words_fit zero bytes are = λ k d below. absurd (omega arith)
words_fit (suc count) bytes are =
    let rest = words_fit count (drop 4 bytes) (bytes_dropped 4 bytes are) in
    fit_more (big_number 4 bytes) (words_of (drop 4 bytes) count) (big_from-lt 0 4 bytes are) rest

-- what a call read, word by word
pub words_read : (words bytes : List ℕ) → IsRead big_number 4 bytes words → words ≡ words_of bytes (length words)
unfolding words_of
words_read [] bytes is = refl
words_read (word ∷ words) bytes is =
    let first : word ≡ big_number 4 bytes = is 0 (omega arith) in
    let later : IsRead big_number 4 (drop 4 bytes) words =
    λ k below. is (suc k) (omega arith) ∙ ap (big_number 4) (moved k) in
    let rest = words_read words (drop 4 bytes) later in
    cc (first, rest)
  where
    moved : (k : ℕ) → drop (4 * suc k) bytes ≡ drop (4 * k) (drop 4 bytes)
    moved k =
        let place : 4 + 4 * k ≡ 4 * suc k = omega arith in
        sym (drop-drop (4 * k) 4 bytes ∙ ap (λ (n : ℕ). drop n bytes) place)

-- what stands in a list of words after it was filled
pub filled : (words items bytes : List ℕ) (size count : ℕ) → IsRead big_number 4 bytes words → length words ≡ count
    → size ≡ count → take size (words ++ items) ≡ words_of bytes count
filled words items bytes size count is long same =
    let whole : size ≡ length words = same ∙ sym long in
    rw whole (take-append_seam words items ∙ words_read words bytes is ∙ ap (words_of bytes) long)

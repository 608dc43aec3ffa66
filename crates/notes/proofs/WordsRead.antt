-- The words of bytes, as they are read one after the other.
use Rattle.notes.proofs.Common.{◌≡◌, ℕ, suc, ◌+◌, ◌*◌, ◌<◌, ◌≤◌, ◌^◌, List, [], ◌∷◌, ◌++◌, length, Ok, ap, sym, subst, subst₂, ◌∙◌, append_assoc, arith, All, le-leb, length-append, big_bytes, big_number-reads_back, length-bytes_high_first, note_at, words_bytes}
use Rattle.std.proofs.Math.Seq.{drop-append_seam}
use Rattle.notes.proofs.Bytes.{words_bytes-cons}

-- the words at an offset
abbrev pub HasWords : List ℕ → ℕ → List ℕ → Type 0
HasWords notes at [] = Unit {0}
HasWords notes at (word ∷ words) = (note_at notes at ≡ Ok word) × HasWords notes (at + 4) words

word-there : (before : List ℕ) (word : ℕ) (after : List ℕ) → word < 2 ^ 32 → note_at (before ++ (big_bytes 4 word ++ after)) (length before) ≡ Ok word
word-there before word after fits =
    let size = length-append before (big_bytes 4 word ++ after) in
    let more = length-append (big_bytes 4 word) after in
    let four = length-bytes_high_first 4 word in
    let there : length before + 4 ≤ length (before ++ (big_bytes 4 word ++ after)) = omega arith in
    rw (le-leb (length before + 4) (length (before ++ (big_bytes 4 word ++ after))) there, drop-append_seam before (big_bytes 4 word ++ after)) (ap Ok (big_number-reads_back 4 word after fits))

rest-fits : (word : ℕ) (words : List ℕ) → All (λ w. w < 2 ^ 32) (word ∷ words) → All (λ w. w < 2 ^ 32) words
rest-fits word words fits = λ k d below. fits (suc k) d (omega arith)

-- the words of bytes stand there
pub has_words : (before words : List ℕ) → All (λ w. w < 2 ^ 32) words → HasWords (before ++ words_bytes words) (length before) words
has_words before [] fits = tt
has_words before (word ∷ words) fits =
    let next = has_words (before ++ big_bytes 4 word) words (rest-fits word words fits) in
    let bytes : (before ++ big_bytes 4 word) ++ words_bytes words ≡ before ++ words_bytes (word ∷ words) = append_assoc before (big_bytes 4 word) (words_bytes words) ∙ ap (λ (b : List ℕ). before ++ b) (sym (words_bytes-cons word words)) in
    let size = length-append before (big_bytes 4 word) in
    let four = length-bytes_high_first 4 word in
    let place : length (before ++ big_bytes 4 word) ≡ length before + 4 = omega arith in (
      rw (words_bytes-cons word words) (word-there before word (words_bytes words) (fits 0 0 (omega arith))),
      subst₂ (λ (b : List ℕ) (at : ℕ). HasWords b at words) bytes place next,
    )

pub move : (notes : List ℕ) (words : List ℕ) (at to : ℕ) → at ≡ to → HasWords notes at words → HasWords notes to words
move notes words at to same has = subst (λ (a : ℕ). HasWords notes a words) same has

pub record Both (notes : List ℕ) (at : ℕ) (xs ys : List ℕ) : Type 0 where
  pub first : HasWords notes at xs
  pub second : HasWords notes (at + 4 * length xs) ys

-- the words of two parts
pub both : (notes : List ℕ) (at : ℕ) (xs ys : List ℕ) → HasWords notes at (xs ++ ys) → Both notes at xs ys
both notes at [] ys has = record { first = tt; second = move notes ys at (at + 4 * 0) (omega arith) has }
both notes at (x ∷ xs) ys has =
    let rest = both notes (at + 4) xs ys has.1 in
    let place : at + 4 + 4 * length xs ≡ at + 4 * (length xs + 1) = omega arith in
    record { first = (has.0, rest.first); second = move notes ys (at + 4 + 4 * length xs) (at + 4 * length (x ∷ xs)) (omega arith) rest.second }

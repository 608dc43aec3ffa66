-- The words of a list of instructions, one after the other.
use Rattle.v8_encode.proofs.Common.{◌≡◌, ℕ, ◌+◌, ◌<◌, List, [], ◌∷◌, length, get_or, set, take, map, arith, map-append, take_all, take_more, take_more_set, Instr, decode_of, words_of, word_of}

-- the first n words are those of the first n instructions
abbrev pub AreWords : List Instr → List ℕ → ℕ → Type 0
AreWords instrs words n =
    (take n words ≡ words_of (take n instrs)) × (map decode_of (take n words) ≡ take n instrs)

pub one_more : (instrs : List Instr) (words : List ℕ) (n word : ℕ) (instr : Instr)
    → n < length instrs → n < length words
    → word ≡ word_of (get_or instrs n instr) → decode_of word ≡ get_or instrs n instr → AreWords instrs words n
    → AreWords instrs (set words n word) (n + 1)
one_more instrs words n word instr inside within is decodes h =
    rw (
      take_more_set words n word within,
      take_more instrs n instr inside,
      map-append word_of (take n instrs) (get_or instrs n instr ∷ []),
      map-append decode_of (take n words) (word ∷ []),
    ) (cc (h.0, is), cc (h.1, decodes))

pub all_words : (instrs : List Instr) (words : List ℕ) (n : ℕ) → length instrs ≡ n → length words ≡ n
    → AreWords instrs words n → (words ≡ words_of instrs) × (map decode_of words ≡ instrs)
all_words instrs words n inside within h =
    let all = take_all n words (omega arith) in
    let each = take_all n instrs (omega arith) in
    (rw (all, each) at h.0, rw (all, each) at h.1)

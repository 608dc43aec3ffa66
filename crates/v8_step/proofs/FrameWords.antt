-- The words of a frame, read from its bytes one by one.
use Rattle.v8_step.proofs.Common.{◌≡◌, ℕ, zero, suc, ◌+◌, ◌*◌, ◌<◌, List, [], ◌∷◌, ◌++◌, length, take, drop, set, refl, ap, ◌∙◌, arith, add-one, drop-drop, w32, from_be_bytes, frame_words}
use Rattle.std.proofs.Math.Seq.{take-suc-set}

one_more : (count : ℕ) (bytes : List ℕ)
    → frame_words (suc count) bytes ≡ frame_words count bytes ++ from_be_bytes w32 (take 4 (drop (4 * count) bytes)) ∷ []
one_more zero bytes = refl
one_more (suc count) bytes =
    ap (λ words. from_be_bytes w32 (take 4 bytes) ∷ words)
    (one_more count (drop 4 bytes)
    ∙ ap (λ rest. frame_words count (drop 4 bytes) ++ from_be_bytes w32 (take 4 rest) ∷ [])
    (drop-drop (4 * count) 4 bytes ∙ ap (λ n. drop n bytes) (omega arith)))

-- a turn of the loop
pub word_read : (words bytes : List ℕ) (i word : ℕ) → i < length words → take i words ≡ frame_words i bytes
    → word ≡ from_be_bytes w32 (take 4 (drop (4 * i) bytes))
    → take (i + 1) (set words i word) ≡ frame_words (i + 1) bytes
word_read words bytes i word below so_far is_word =
    rw add-one (take-suc-set words i word below ∙ cc (one_more i bytes))

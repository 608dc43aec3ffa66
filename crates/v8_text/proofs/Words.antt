-- Words.
use Rattle.v8_text.proofs.Common.{◌≡◌, ◌≢◌, ℕ, ◌<◌, ◌^◌, true, false, if◌then◌else◌, List, codes, Option, Some, None, refl, ap, sym, ◌∙◌, arith, bytes_eq, cond_both, eq-eqb, eqb-true, nat_tests, ◌>>=◌, split_at, is_whole, split_back, split_read, step, tested, Instr, decode_of, decode_of-ranges, encode_of, has_word, word_of, instr_text, is_spelled, named, number_text, raw_text, word_text, instr_of, joined_of, name_of, single_of, number_in, raw_of, unspelled, word_in, TextsReadBack}
use Rattle.v8_text.proofs.Found.{text_is}
use Rattle.v8_text.proofs.Least.{is_word, spelled_is}
use Rattle.v8_text.proofs.Plain.{hex_plain, instr_whole, named_whole}
use Rattle.v8_text.proofs.Targets.{number_in_back, number_in_read}
use Rattle.v8_text.proofs.Instructions.{instr_back, instr_read}

-- ---- words that are told as instructions

again_is : (w : ℕ) (encoded : Option ℕ) → is_word w encoded ≡ true → encoded ≡ Some w
again_is w None h = absurd (cc h)
again_is w (Some v) h = ap Some (eqb-true v w h)

has : (instr : Instr) (w : ℕ) → encode_of instr ≡ Some w → has_word instr ≡ true
unfolding encode_of
has instr w h = (tested (has_word instr) (word_of instr) w h).0

-- a word that is told as an instruction is what that is encoded as
pub encoded_again : (w : ℕ) → w < 2 ^ 32 → is_spelled w ≡ true → encode_of (decode_of w) ≡ Some w
encoded_again w fits is = again_is w (encode_of (decode_of w)) (sym (spelled_is w fits) ∙ is)

spelled_back : (at w : ℕ) → at < 2 ^ 32 → w < 2 ^ 32 → is_spelled w ≡ true → word_in at (instr_text at (decode_of w)) ≡ Some w
unfolding word_in
spelled_back at w low fits is =
    let encoded = encoded_again w fits is in
    rw (instr_back at (decode_of w) low (decode_of-ranges w).0 (has (decode_of w) w encoded), encoded) refl

-- ---- words that are told as numbers

no_instr : (at w : ℕ) → instr_of at (raw_text w) ≡ None
unfolding instr_of name_of joined_of single_of
no_instr at w =
    rw (split_back 32 (codes ".word") (number_text w) refl) refl

raw_back : (at w : ℕ) → w < 2 ^ 32 → is_spelled w ≡ false → word_in at (raw_text w) ≡ Some w
unfolding word_in raw_of
raw_back at w fits is =
    rw (no_instr at w, split_back 32 (codes ".word") (number_text w) refl, number_in_back w fits, is) refl

-- ---- both

pub word_back : TextsReadBack
unfolding word_text
word_back at w low fits =
    cond_both (is_spelled w) _ _ (λ text. word_in at text ≡ Some w) (spelled_back at w low fits) (raw_back at w fits)

-- what is read as an instruction
pub spelled_read : (at w : ℕ) (text : List ℕ) (instr : Instr) → at < 2 ^ 32 → w < 2 ^ 32 → instr_of at text ≡ Some instr
    → encode_of instr ≡ Some w → decode_of w ≡ instr → text ≡ word_text at w
unfolding word_text
spelled_read at w text instr low fits is encoded decoded =
    let again : is_spelled w ≡ true = rw (spelled_is w fits, decoded, encoded) (eq-eqb w w refl) in
    rw (again, decoded) (instr_read at text instr low is)

-- and as a number
raw_is : (at w : ℕ) → is_spelled w ≡ false → raw_text w ≡ word_text at w
unfolding word_text
raw_is at w is = sym (rw is refl)

unspelled_is : (w v : ℕ) → unspelled w ≡ Some v → (is_spelled w ≡ false) × (w ≡ v)
unspelled_is w v h = grind (arith, nat_tests)

pub raw_read : (at w : ℕ) (text : List ℕ) → raw_of text ≡ Some w → text ≡ word_text at w
unfolding raw_of
raw_read at w text h =
    step (λ (w : ℕ). text ≡ word_text at w) (split_at 32 text) _ (λ parts a.
    step (λ (w : ℕ). text ≡ word_text at w) (if bytes_eq parts.0 (codes ".word") then Some parts.1 else None) _ (λ digits b.
    step (λ (w : ℕ). text ≡ word_text at w) (number_in digits) _ (λ number c w d.
    let name = tested (bytes_eq parts.0 (codes ".word")) parts.1 digits b in
    let last = unspelled_is number w d in
    let operands = name.1 ∙ (number_in_read digits number c).text in
    split_read 32 text parts a ∙ ap (λ (first : List ℕ). named first parts.1) (text_is parts.0 (codes ".word") name.0)
    ∙ ap (named (codes ".word")) operands ∙ raw_is at number last.0 ∙ ap (word_text at) last.1))) w h

-- what isn't read is the text of no word
pub unread : (at : ℕ) (text : List ℕ) → at < 2 ^ 32 → word_in at text ≡ None → (w : ℕ) → w < 2 ^ 32
    → text ≢ word_text at w
unread at text low none w fits same = cc (word_back at w low fits)

-- nothing was read either way
pub nothing_read : (at : ℕ) (text : List ℕ) → (instr_of at text >>= encode_of) ≡ None → raw_of text ≡ None
    → word_in at text ≡ None
unfolding word_in
nothing_read at text a b = rw (a, b) refl

-- ---- and no text has a newline

pub word_whole : (at w : ℕ) → w < 2 ^ 32 → is_whole 10 (word_text at w) ≡ true
unfolding word_text
word_whole at w fits =
    cond_both (is_spelled w) _ _ (λ text. is_whole 10 text ≡ true)
    (λ is. instr_whole at (decode_of w) (decode_of-ranges w).0 (has (decode_of w) w (encoded_again w fits is)))
    (λ _. named_whole (codes ".word") (number_text w) refl (hex_plain w))

-- Words that have neither a space nor a newline.
use Rattle.weights_in.proofs.Common.{inl, inr, ◌≡◌, ℕ, ◌+◌, ◌<◌, ◌/◌, ◌%◌, ◌*◌, ◌^◌, ◌==◌, ◌&&◌, ◌||◌, not, Bool, true, false, nat_lt, List, [], ◌∷◌, ◌++◌, length, take, drop, Option, Some, None, codes, refl, ap, sym, ◌∙◌, arith, list_all, list_any, is_some, bytes_eq, and_from, and_parts, cases_Bool, cond_both, ne_eqb, take-append-drop, bytes_eq-Decides, is_address, is_kind, is_node}
use Rattle.eel_base.specs.Fields.{hex_digit, hex_digit_at, hex_of}
use Rattle.line_words.specs.Registers.{hex_number_of}
use Rattle.line_words.proofs.Digits.{address_read}
pub use Rattle.line_words.proofs.Split.{is_whole, whole_append}

abbrev pub is_plain : List ℕ → Bool
is_plain word = is_whole 10 word && is_whole 32 word

-- a word that is one of some plain ones
one_plain : (word : List ℕ) (words : List (List ℕ)) → list_all is_plain words ≡ true
    → list_any (bytes_eq word) words ≡ true → is_plain word ≡ true
one_plain word [] all h = absurd (cc h)
one_plain word (first ∷ words) all h =
    let parts = and_parts (is_plain first) (list_all is_plain words) all in
    elim (cases_Bool (bytes_eq word first)) [
      | inl is ↦ rw ((bytes_eq-Decides word first).0 is) parts.0
      | inr isnt ↦ one_plain word words parts.1 (rw isnt at h)
    ]

pub kind_plain : (word : List ℕ) → is_kind word ≡ true → is_plain word ≡ true
kind_plain word h =
    one_plain word (codes "fall" ∷ codes "taken" ∷ codes "untaken" ∷ codes "call" ∷ codes "out" ∷ codes "land"
    ∷ codes "case" ∷ []) refl h

-- ---- nodes

digit_whole : (mark n : ℕ) → mark < 48 → not (hex_digit n == mark) ≡ true
digit_whole mark n low =
    cond_both (nat_lt n 10) (48 + n) (87 + n) (λ (byte : ℕ). not (byte == mark) ≡ true)
    (λ is. rw (ne_eqb (48 + n) mark (λ e. absurd (omega arith))) refl)
    (λ isnt. rw (ne_eqb (87 + n) mark (λ e. absurd (omega arith))) refl)

hex_whole : (mark n : ℕ) → mark < 48 → is_whole mark (hex_of n) ≡ true
hex_whole mark n low =
    let at : (place : ℕ) → not (hex_digit_at n place == mark) ≡ true =
    λ place. digit_whole mark (n / 2 ^ (4 * place) % 16) low in
    rw (at 7, at 6, at 5, at 4, at 3, at 2, at 1, at 0) refl

hex_plain : (n : ℕ) → is_plain (hex_of n) ≡ true
hex_plain n = and_from _ _ (hex_whole 10 n (omega arith)) (hex_whole 32 n (omega arith))

address_plain : (word : List ℕ) → is_address word ≡ true → is_plain word ≡ true
address_plain word h = by_number (hex_number_of word) refl h
  where
    by_number : (found : Option ℕ) → hex_number_of word ≡ found → is_some found ≡ true → is_plain word ≡ true
    by_number (Some n) is some = ap is_plain (address_read word n is).0 ∙ hex_plain n
    by_number None is some = absurd (cc some)

plain_append : (one other : List ℕ) → is_plain one ≡ true → is_plain other ≡ true → is_plain (one ++ other) ≡ true
plain_append one other a b =
    let first = and_parts (is_whole 10 one) (is_whole 32 one) a in
    let second = and_parts (is_whole 10 other) (is_whole 32 other) b in
    and_from _ _ (whole_append 10 one other first.0 second.0) (whole_append 32 one other first.1 second.1)

marked_plain : (word : List ℕ)
    → ((length word == 9) && bytes_eq (drop 8 word) (codes "+") && is_address (take 8 word)) ≡ true
    → is_plain word ≡ true
marked_plain word h =
    let outer = and_parts ((length word == 9) && bytes_eq (drop 8 word) (codes "+")) (is_address (take 8 word)) h in
    let inner = and_parts (length word == 9) (bytes_eq (drop 8 word) (codes "+")) outer.0 in
    let mark : is_plain (drop 8 word) ≡ true = ap is_plain ((bytes_eq-Decides (drop 8 word) (codes "+")).0 inner.1) in
    ap is_plain (sym (take-append-drop 8 word))
    ∙ plain_append (take 8 word) (drop 8 word) (address_plain (take 8 word) outer.1) mark

pub node_plain : (word : List ℕ) → is_node word ≡ true → is_plain word ≡ true
node_plain word h = by_tests (bytes_eq word (codes "x")) refl (is_address word) refl h
  where
    by_tests : (a : Bool) → bytes_eq word (codes "x") ≡ a → (b : Bool) → is_address word ≡ b
        → (a || b || ((length word == 9) && bytes_eq (drop 8 word) (codes "+") && is_address (take 8 word))) ≡ true
        → is_plain word ≡ true
    by_tests true a b is any = ap is_plain ((bytes_eq-Decides word (codes "x")).0 a)
    by_tests false a true is any = address_plain word is
    by_tests false a false is any = marked_plain word any

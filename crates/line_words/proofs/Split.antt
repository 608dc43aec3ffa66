-- Words, and a byte behind each.
use Rattle.std.proofs.Common.{◌≡◌, ℕ, suc, ◌+◌, ◌^◌, ◌<◌, ◌==◌, not, Bool, true, false, List, [], ◌∷◌, ◌++◌, length, take, drop, get_or, Some, refl, ap, sym, ◌∙◌, arith, decimal}
use Rattle.std.specs.List.{list_all, position, position_or_len}
use Rattle.std.proofs.lemmas.Bool.{and_parts, lt-ltb, eqb-true, eq-eqb, ne_eqb}
use Rattle.std.proofs.lemmas.Bool.Decides.{nat_tests}
use Rattle.std.proofs.lemmas.List.{length-append, take-append-drop}
use Rattle.std.proofs.lemmas.List.Quantifiers.{position-Some}
use Rattle.std.proofs.Math.Seq.{take-append_seam, drop-append-add, drop-cons}
use Rattle.std.proofs.lemmas.Fmt.{decimal_is_IsNumeral_wide}
use Rattle.line_words.specs.Words.{is_digit, split_at}
use Rattle.line_words.proofs.Steps.{mapped}
use Rattle.line_words.proofs.Numbers.{own}

-- a word doesn't have the byte
abbrev pub is_whole : ℕ → List ℕ → Bool
is_whole mark word = list_all (λ byte. not (byte == mark)) word

pub whole_append : (mark : ℕ) (one other : List ℕ) → is_whole mark one ≡ true → is_whole mark other ≡ true
    → is_whole mark (one ++ other) ≡ true
whole_append mark [] other a b = b
whole_append mark (byte ∷ one) other a b = grind (arith, nat_tests, whole_append mark one other)

-- the digits of a number
pub decimal_digits_wide : (n : ℕ) → n < 10 ^ 64 → list_all is_digit (decimal n) ≡ true
decimal_digits_wide n fits = own.from (decimal n) (decimal_is_IsNumeral_wide n fits).0.1

pub decimal_digits : (n : ℕ) → n < 2 ^ 32 → list_all is_digit (decimal n) ≡ true
decimal_digits n fits = decimal_digits_wide n (omega arith)

module _ (mark : ℕ) where
  digits_whole : is_digit mark ≡ false → (word : List ℕ) → list_all is_digit word ≡ true → is_whole mark word ≡ true
  digits_whole other [] h = refl
  digits_whole other (byte ∷ word) h =
      let parts = and_parts (is_digit byte) (list_all is_digit word) h in
      let here = ne_eqb byte mark (λ is. cc (ap is_digit (sym is) ∙ parts.0, other)) in
      rw (here, digits_whole other word parts.1) refl

  pub decimal_whole_wide : is_digit mark ≡ false → (n : ℕ) → n < 10 ^ 64 → is_whole mark (decimal n) ≡ true
  decimal_whole_wide other n fits = digits_whole other (decimal n) (decimal_digits_wide n fits)

  pub decimal_whole : is_digit mark ≡ false → (n : ℕ) → n < 2 ^ 32 → is_whole mark (decimal n) ≡ true
  decimal_whole other n fits = decimal_whole_wide other n (omega arith)

  mark_after : (word rest : List ℕ) → is_whole mark word ≡ true
      → position_or_len (λ byte. byte == mark) (word ++ (mark ∷ rest)) ≡ length word
  mark_after [] rest h = rw (eq-eqb mark mark refl) refl
  mark_after (byte ∷ word) rest h =
      let parts = and_parts (not (byte == mark)) (is_whole mark word) h in
      rw (parts.0, mark_after word rest parts.1) (omega arith)

  -- a word that was written before the byte is read
  pub split_back : (word rest : List ℕ) → is_whole mark word ≡ true
      → split_at mark (word ++ (mark ∷ rest)) ≡ Some (word, rest)
  unfolding split_at
  split_back word rest h =
      let long = length-append word (mark ∷ rest) in
      let test = lt-ltb (length word) (length (word ++ (mark ∷ rest))) (omega arith) in
      rw (mark_after word rest h, test, take-append_seam word (mark ∷ rest), drop-append-add word (mark ∷ rest) 1) refl

  -- and what was read is a word and the rest
  pub split_read : (bytes : List ℕ) (parts : List ℕ × List ℕ) → split_at mark bytes ≡ Some parts
      → bytes ≡ parts.0 ++ (mark ∷ parts.1)
  unfolding split_at
  split_read bytes parts h =
      let found = mapped (λ (end : ℕ). (take end bytes, drop (end + 1) bytes)) (position (λ byte. byte == mark) bytes) parts h in
      let place = position-Some (λ byte. byte == mark) bytes found.got 0 found.is in
      let here = drop-cons bytes found.got 0 place.0 in
      let next : suc found.got ≡ found.got + 1 = omega arith in
      let rest = rw (eqb-true (get_or bytes found.got 0) mark place.1, next) at here in
      rw (← found.same) (sym (rw (← rest) (take-append-drop found.got bytes)))

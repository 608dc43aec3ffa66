-- What is read one step after the other.
use Rattle.v8_text.proofs.Common.{◌≡◌, ℕ, ◌<◌, ◌==◌, Bool, true, false, List, [], ◌∷◌, get_or, map, Option, Some, None, ◌⊎◌, inl, inr, refl, ap, sym, ◌∙◌, arith, range_with_len, bytes_eq, eq-eqb, nat_tests, get_or-map-range_with_len, register_of, register_text, register_read, behind, first_of}
use Rattle.std.proofs.lemmas.Slice.Eq.{bytes_eq-Decides}
pub use Rattle.line_words.proofs.Split.{is_whole, whole_append}

-- what the first or the second of two gives
pub either_of : {A : Type 0} (a b : Option A) (x : A) → first_of a b ≡ Some x → (a ≡ Some x) ⊎ (b ≡ Some x)
either_of (Some y) b x h = inl h
either_of None b x h = inr h

pub text_is : (one other : List ℕ) → bytes_eq one other ≡ true → one ≡ other
text_is one other h = (bytes_eq-Decides one other).0 h

-- what is so of each of some numbers is so of each
pub at_each : (test : ℕ → Bool) (count : ℕ) → map test (range_with_len 0 count) ≡ map (λ k. true) (range_with_len 0 count)
    → (k : ℕ) → k < count → test k ≡ true
at_each test count all k low =
    sym (get_or-map-range_with_len test 0 count k k false low (omega arith))
    ∙ ap (λ (tests : List Bool). get_or tests k false) all
    ∙ get_or-map-range_with_len (λ k. true) 0 count k k false low (omega arith)

-- ---- behind a byte

pub behind_back : (mark : ℕ) (rest : List ℕ) → behind mark (mark ∷ rest) ≡ Some rest
unfolding behind
behind_back mark rest = rw (eq-eqb mark mark refl) refl

pub behind_read : (mark : ℕ) (word rest : List ℕ) → behind mark word ≡ Some rest → word ≡ mark ∷ rest
unfolding behind
behind_read mark [] rest h = absurd (cc h)
behind_read mark (byte ∷ bytes) rest h = grind (arith, nat_tests)

-- ---- words without a byte

pub register_whole-44 : (reg : ℕ) → reg < 32 → is_whole 44 (register_text reg) ≡ true
register_whole-44 = at_each (λ reg. is_whole 44 (register_text reg)) 32 refl

pub register_whole-93 : (reg : ℕ) → reg < 32 → is_whole 93 (register_text reg) ≡ true
register_whole-93 = at_each (λ reg. is_whole 93 (register_text reg)) 32 refl

-- a word that begins otherwise names no register
pub no_register : (byte : ℕ) (bytes : List ℕ) → (byte == 37) ≡ false → register_of (byte ∷ bytes) ≡ None
no_register byte bytes other = go (register_of (byte ∷ bytes)) refl
  where
    go : (found : Option ℕ) → register_of (byte ∷ bytes) ≡ found → found ≡ None
    go None is = refl
    go (Some reg) is =
        let first : byte ≡ 37 = cc (register_read (byte ∷ bytes) reg is).0 in absurd (cc (eq-eqb byte 37 first))

-- Immediate operands, and second operands.
use Rattle.v8_text.proofs.Common.{◌≡◌, ℕ, zero, suc, ◌≤◌, ◌^◌, ◌==◌, true, false, nat_le, List, [], ◌∷◌, Option, Some, None, ℤ, pos, negsuc, inl, inr, decimal, refl, ap, sym, ◌∙◌, arith, list_all, option_map, and_parts, le-leb, ltb-true, ne_eqb, ◌>>=◌, is_digit, number_of, register_of, number_back, number_read, register_back, register_read, decimal_digits, decimal_whole, is_whole, mapped, step, tested, Op2, op2_in_range, fits_signed, op2_fits, integer_text, op2_text, behind, below_zero, integer_by, integer_of, op2_of, small}
use Rattle.v8_decode.specs.declared.Op2.TheVariants as o
use Rattle.v8_text.proofs.Found.{behind_back, behind_read, either_of, no_register, register_whole-44, register_whole-93}

-- digits begin with a digit
digits_other : (mark : ℕ) (word : List ℕ) → is_digit mark ≡ false → list_all is_digit word ≡ true → behind mark word ≡ None
unfolding behind
digits_other mark [] other digits = refl
digits_other mark (byte ∷ bytes) other digits =
    rw (ne_eqb byte mark (λ is. cc (ap is_digit (sym is) ∙ (and_parts (is_digit byte) _ digits).0, other))) refl

no_letters : register_of [] ≡ None
unfolding register_of
no_letters = refl

no_digits : (word : List ℕ) → list_all is_digit word ≡ true → register_of word ≡ None
no_digits [] digits = no_letters
no_digits (byte ∷ bytes) digits =
    no_register byte bytes (ne_eqb byte 37 (λ is. cc (ap is_digit (sym is) ∙ (and_parts (is_digit byte) _ digits).0)))

small_is : (n : ℕ) → n ≤ 4096 → small n ≡ Some n
small_is n low = rw (le-leb n 4096 low) refl

pub integer_back : (z : ℤ) → fits_signed 13 z ≡ true → integer_of (integer_text z) ≡ Some z
unfolding integer_of
integer_back (pos n) fits =
    let low = ltb-true n (2 ^ 12) fits in
    rw (digits_other 45 _ refl (decimal_digits n (omega arith)), number_back n (omega arith), small_is n (omega arith)) refl
integer_back (negsuc n) fits =
    let low = ltb-true n (2 ^ 12) fits in
    rw (behind_back 45 (decimal (suc n)), number_back (suc n) (omega arith), small_is (suc n) (omega arith)) refl

small_read : (n m : ℕ) → small n ≡ Some m → n ≡ m
small_read n m h = (tested (nat_le n 4096) n m h).1

number_small : (word : List ℕ) (m : ℕ) → (number_of word >>= small) ≡ Some m → word ≡ decimal m
number_small word m h =
    step (λ (m : ℕ). word ≡ decimal m) (number_of word) small
    (λ n number m same. (number_read word n number).0 ∙ ap decimal (small_read n m same)) m h

below_read : (n : ℕ) (z : ℤ) → below_zero n ≡ Some z → 45 ∷ decimal n ≡ integer_text z
below_read zero z h = absurd (cc h)
below_read (suc n) z h = let same : negsuc n ≡ z = cc h in ap integer_text same

by_front : (word : List ℕ) (front : Option (List ℕ)) → behind 45 word ≡ front → (z : ℤ) → integer_by front word ≡ Some z
    → word ≡ integer_text z
by_front word (Some digits) is z h =
    step (λ (z : ℤ). word ≡ integer_text z) (number_of digits >>= small) below_zero
    (λ m found z last. behind_read 45 word digits is ∙ ap (λ (rest : List ℕ). 45 ∷ rest) (number_small digits m found)
    ∙ below_read m z last) z h
by_front word None is z h =
    let found = mapped pos (number_of word >>= small) z h in
    number_small word found.got found.is ∙ ap integer_text found.same

pub integer_read : (word : List ℕ) (z : ℤ) → integer_of word ≡ Some z → word ≡ integer_text z
unfolding integer_of
integer_read word z h = by_front word (behind 45 word) refl z h

-- ---- second operands

integer_no_register : (z : ℤ) → fits_signed 13 z ≡ true → register_of (integer_text z) ≡ None
integer_no_register (pos n) fits =
    let low = ltb-true n (2 ^ 12) fits in no_digits (decimal n) (decimal_digits n (omega arith))
integer_no_register (negsuc n) fits = no_register 45 (decimal (suc n)) refl

pub op2_back : (op2 : Op2) → op2_in_range op2 ≡ true → op2_fits op2 ≡ true → op2_of (op2_text op2) ≡ Some op2
unfolding op2_of
op2_back (o.Reg reg) range fits = rw (register_back reg (ltb-true reg 32 range)) refl
op2_back (o.Imm z) range fits = rw (integer_no_register z fits, integer_back z fits) refl

pub op2_read : (word : List ℕ) (op2 : Op2) → op2_of word ≡ Some op2 → word ≡ op2_text op2
unfolding op2_of
op2_read word op2 h =
    elim (either_of (option_map o.Reg (register_of word)) (option_map o.Imm (integer_of word)) op2 h)
    as (λ _. word ≡ op2_text op2) [
      | inl reg ↦ let found = mapped o.Reg (register_of word) op2 reg in
          (register_read word found.got found.is).0 ∙ ap op2_text found.same
      | inr number ↦ let found = mapped o.Imm (integer_of word) op2 number in
          integer_read word found.got found.is ∙ ap op2_text found.same
    ]

integer_whole : (mark : ℕ) → is_digit mark ≡ false → (45 == mark) ≡ false → (z : ℤ) → fits_signed 13 z ≡ true
    → is_whole mark (integer_text z) ≡ true
integer_whole mark other minus (pos n) fits =
    let low = ltb-true n (2 ^ 12) fits in decimal_whole mark other n (omega arith)
integer_whole mark other minus (negsuc n) fits =
    let low = ltb-true n (2 ^ 12) fits in rw (minus, decimal_whole mark other (suc n) (omega arith)) refl

pub op2_whole-44 : (op2 : Op2) → op2_in_range op2 ≡ true → op2_fits op2 ≡ true → is_whole 44 (op2_text op2) ≡ true
op2_whole-44 (o.Reg reg) range fits = register_whole-44 reg (ltb-true reg 32 range)
op2_whole-44 (o.Imm z) range fits = integer_whole 44 refl refl z fits

pub op2_whole-93 : (op2 : Op2) → op2_in_range op2 ≡ true → op2_fits op2 ≡ true → is_whole 93 (op2_text op2) ≡ true
op2_whole-93 (o.Reg reg) range fits = register_whole-93 reg (ltb-true reg 32 range)
op2_whole-93 (o.Imm z) range fits = integer_whole 93 refl refl z fits

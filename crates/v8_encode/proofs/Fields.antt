-- The fields of a word that was put together, and a word put together of its fields.
use Rattle.v8_encode.proofs.Common.{◌≡◌, ℕ, suc, ◌+◌, ◌-◌, ◌*◌, ◌^◌, ◌<◌, ◌≤◌, true, nat_lt, ◌==◌, ℤ, pos, negsuc, ◌-ℤ◌, refl, ap, ◌∙◌, arith, if◌then◌else◌, eqb-true, eqb-false, ltb-true, ltb-false, le-ltb, lt-ltb, cond_both, nat_tests, Op2, field, signed, rd_of, op3_of, rs1_of, op2_of, op2_in_range, fits_signed, op2_fits, cleared, ignored_beside, signed_field, op2_field, format3}
use Rattle.std.proofs.lemmas.Int.{ints}
use Rattle.v8_decode.specs.declared.Op2.TheVariants as o

-- the fields of a word of format 3
pub record IsFormat3 (op rd op3 rs1 low w : ℕ) : Type 0 where
  pub the_op : field w 30 2 ≡ op
  pub the_rd : rd_of w ≡ rd
  pub the_op3 : op3_of w ≡ op3
  pub the_rs1 : rs1_of w ≡ rs1
  pub the_low : field w 0 14 ≡ low

pub format3_fields : (op rd op3 rs1 low : ℕ) → op < 4 → rd < 32 → op3 < 64 → rs1 < 32 → low < 2 ^ 14
    → IsFormat3 op rd op3 rs1 low (op * 2 ^ 30 + rd * 2 ^ 25 + op3 * 2 ^ 19 + rs1 * 2 ^ 14 + low)
format3_fields op rd op3 rs1 low h0 h1 h2 h3 h4 = omega arith

-- ---- numbers in two's complement

minus : (n m : ℕ) → n < m → pos n -ℤ pos m ≡ negsuc (m - suc n)
minus n m h = omega (arith, ints)

pub signed_field-lt : (width : ℕ) (z : ℤ) → 2 ^ width ≡ 2 * 2 ^ (width - 1) → fits_signed width z ≡ true → signed_field width z < 2 ^ width
signed_field-lt width z twice fits = grind (arith, nat_tests)

pub signed-signed_field : (width : ℕ) (z : ℤ) → 2 ^ width ≡ 2 * 2 ^ (width - 1) → fits_signed width z ≡ true → signed width (signed_field width z) ≡ z
signed-signed_field width (pos n) twice fits = ap (λ b. if b then pos n else (pos n -ℤ pos (2 ^ width))) fits
signed-signed_field width (negsuc n) twice fits =
    let low = ltb-true n (2 ^ (width - 1)) fits in
    let high : 2 ^ (width - 1) ≤ 2 ^ width - suc n = omega arith in
    let below : 2 ^ width - suc n < 2 ^ width = omega arith in
    let back : 2 ^ width - suc (2 ^ width - suc n) ≡ n = omega arith in
    rw (le-ltb _ _ high, minus (2 ^ width - suc n) (2 ^ width) below, back) refl

pub signed_field-signed : (width n : ℕ) → 2 ^ width ≡ 2 * 2 ^ (width - 1) → n < 2 ^ width → (fits_signed width (signed width n) ≡ true) × (signed_field width (signed width n) ≡ n)
signed_field-signed width n twice below = cond_both (nat_lt n (2 ^ (width - 1))) (pos n) (pos n -ℤ pos (2 ^ width))
    (λ z. (fits_signed width z ≡ true) × (signed_field width z ≡ n)) (λ e. (e, refl)) (λ e.
    let high = ltb-false n (2 ^ (width - 1)) e in
    let small : 2 ^ width - suc n < 2 ^ (width - 1) = omega arith in
    let back : 2 ^ width - suc (2 ^ width - suc n) ≡ n = omega arith in
    let value = minus n (2 ^ width) below in
    (ap (fits_signed width) value ∙ lt-ltb _ _ small, ap (signed_field width) value ∙ back))

-- ---- the second operand

pub op2_field-lt : (op2 : Op2) → op2_fits op2 ≡ true → op2_in_range op2 ≡ true → op2_field op2 < 2 ^ 14
op2_field-lt op2 fits range = grind (arith, nat_tests, signed_field-lt 13)

-- what is put into a word is read back
pub op2_of-field : (op2 : Op2) (w : ℕ) → op2_fits op2 ≡ true → op2_in_range op2 ≡ true → field w 0 14 ≡ op2_field op2 → op2_of w ≡ op2
op2_of-field (o.Reg rs2) w fits range e =
    let low = ltb-true rs2 32 range in
    let i : field w 13 1 ≡ 0 = omega arith in
    let number : field w 0 5 ≡ rs2 = omega arith in
    rw (i, number) refl
op2_of-field (o.Imm simm13) w fits range e =
    let low = signed_field-lt 13 simm13 refl fits in
    let i : field w 13 1 ≡ 1 = omega arith in
    let value : field w 0 13 ≡ signed_field 13 simm13 = omega arith in
    rw (i, value, signed-signed_field 13 simm13 refl fits) refl

-- a word's operand fits its field
pub op2_fits-op2_of : (w : ℕ) → op2_fits (op2_of w) ≡ true
op2_fits-op2_of w = cond_both (field w 13 1 == 0) (o.Reg (field w 0 5)) (o.Imm (signed 13 (field w 0 13)))
    (λ x. op2_fits x ≡ true) (λ _. refl) (λ _. (signed_field-signed 13 (field w 0 13) refl (omega arith)).0)

-- the operand is told by bits 13 to 0
pub op2_of-same : (v w : ℕ) → field v 0 14 ≡ field w 0 14 → op2_of v ≡ op2_of w
op2_of-same v w e =
    let i : field v 13 1 ≡ field w 13 1 = omega arith in
    let number : field v 0 5 ≡ field w 0 5 = omega arith in
    let value : field v 0 13 ≡ field w 0 13 = omega arith in
    rw (i, number, value) refl

-- a word of format 3, put together again of its fields
pub format3-fields : (w : ℕ) → w < 2 ^ 32 → format3 (field w 30 2) (rd_of w) (op3_of w) (rs1_of w) (op2_of w) ≡ cleared (ignored_beside (op2_of w)) w
format3-fields w below = cond_both (field w 13 1 == 0) (o.Reg (field w 0 5)) (o.Imm (signed 13 (field w 0 13)))
    (λ x. format3 (field w 30 2) (rd_of w) (op3_of w) (rs1_of w) x ≡ cleared (ignored_beside x) w)
    (λ e. let i = eqb-true (field w 13 1) 0 e in omega arith) (λ e.
    let i = eqb-false (field w 13 1) 0 e in
    let low : field w 0 13 < 2 ^ 13 = omega arith in
    let back = (signed_field-signed 13 (field w 0 13) refl low).1 in
    ap (λ x. field w 30 2 * 2 ^ 30 + rd_of w * 2 ^ 25 + op3_of w * 2 ^ 19 + rs1_of w * 2 ^ 14 + (2 ^ 13 + x)) back ∙ omega arith)

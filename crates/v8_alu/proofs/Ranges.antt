-- An outcome's value and Y have 32 bits where the operands and Y before it had.
use Rattle.std.proofs.Common.{ℕ, ◌*◌, ◌/◌, ◌^◌, ◌<◌, ◌≤◌, Bool, true, false, Result, Ok, Err, nat_lt, nat_le, ◌==◌, arith}
use Rattle.std.specs.Prelude.{bit_xor}
use Rattle.std.specs.Int.Bits.{and_lt}
use Rattle.std.proofs.lemmas.Nat.{or_lt, xor_lt, mul-lt}
use Rattle.std.proofs.Math.Nat.{div-le_self}
use Rattle.std.proofs.lemmas.Bool.{cond_both, ltb-true, leb-true}
use Rattle.v8_decode.specs.declared.AluOp.{AluOp}
use Rattle.v8_decode.specs.declared.AluOp.TheVariants as ops
use Rattle.v8_alu.specs.declared.Codes.{Codes}
use Rattle.v8_alu.specs.declared.AluOut.{AluOut}
use Rattle.v8_alu.specs.declared.AluTrap.{AluTrap}
use Rattle.v8_alu.specs.Numbers.{wrapped, is_negative, complement, magnitude, differ, one_if}
use Rattle.v8_alu.specs.Code.{IsOutInRange}
use Rattle.v8_alu.specs.Alu.{alu_of, result_of, keeping, sum_out, difference_out, with_tags, trap_on_v, product_out, signed_product, unsigned_end, unsigned_quotient, dividend_magnitude, signed_end, signed_quotient, divided, shifted_right, count_of}

pub wrapped_range : (n : ℕ) → wrapped n < 2 ^ 32
wrapped_range n = omega arith

complement_range : (n : ℕ) → complement n < 2 ^ 32
complement_range n = omega arith

shifted_range : (a count : ℕ) → a < 2 ^ 32 → shifted_right a count < 2 ^ 32
shifted_range a count h =
    let low : a / 2 ^ count ≤ a = div-le_self a (2 ^ count) in
    cond_both (is_negative a) _ _ (λ n. n < 2 ^ 32) (λ _. complement_range _) (λ _. omega arith)

magnitude_range : (a : ℕ) → a < 2 ^ 32 → magnitude a < 2 ^ 32
magnitude_range a h = cond_both (is_negative a) _ _ (λ n. n < 2 ^ 32) (λ e. let k : 2 ^ 31 ≤ a = leb-true _ _ e in omega arith) (λ _. h)

signed_product_range : (a b : ℕ) → a < 2 ^ 32 → b < 2 ^ 32 → signed_product a b < 2 ^ 64
signed_product_range a b ha hb =
    cond_both (differ (is_negative a) (is_negative b)) _ _ (λ n. n < 2 ^ 64) (λ _. omega arith)
    (λ _. mul-lt (magnitude a) (magnitude b) (2 ^ 32) (2 ^ 32) (magnitude_range a ha) (magnitude_range b hb))

product_range : (p : ℕ) → p < 2 ^ 64 → IsOutInRange (product_out p)
product_range p h = (wrapped_range p, omega arith)

tags_range : (a b : ℕ) (r : Result AluOut AluTrap) → IsOutInRange r → IsOutInRange (with_tags a b r)
tags_range a b (Ok o) h = h
tags_range a b (Err trap) h = h

trap_range : (r : Result AluOut AluTrap) → IsOutInRange r → IsOutInRange (trap_on_v r)
trap_range (Ok o) h = cond_both o.codes.v _ _ IsOutInRange (λ _. tt) (λ _. h)
trap_range (Err trap) h = h

divided_range : (b : ℕ) (r : Result AluOut AluTrap) → IsOutInRange r → IsOutInRange (divided b r)
divided_range b r h = cond_both (b == 0) _ _ IsOutInRange (λ _. tt) (λ _. h)

unsigned_range : (size y : ℕ) → y < 2 ^ 32 → IsOutInRange (unsigned_end size y)
unsigned_range size y h =
    cond_both (nat_lt size (2 ^ 32)) _ _ IsOutInRange (λ e. (ltb-true _ _ e, h)) (λ _. (omega arith, h))

signed_range : (negative : Bool) (size y : ℕ) → y < 2 ^ 32 → IsOutInRange (signed_end negative size y)
signed_range true size y h =
    cond_both (nat_le size (2 ^ 31)) _ _ IsOutInRange (λ _. (wrapped_range _, h)) (λ _. (omega arith, h))
signed_range false size y h =
    cond_both (nat_lt size (2 ^ 31)) _ _ IsOutInRange (λ e. (let k : size < 2 ^ 31 = ltb-true _ _ e in omega arith, h)) (λ _. (omega arith, h))

sum_range : (a b carry y : ℕ) → y < 2 ^ 32 → IsOutInRange (sum_out a b carry y)
sum_range a b carry y h = (wrapped_range _, h)

difference_range : (a b borrow y : ℕ) → y < 2 ^ 32 → IsOutInRange (difference_out a b borrow y)
difference_range a b borrow y h = (wrapped_range _, h)

result_range : (op : AluOp) (a b : ℕ) (codes : Codes) (y : ℕ) → a < 2 ^ 32 → b < 2 ^ 32 → y < 2 ^ 32 → IsOutInRange (result_of op a b codes y)
result_range ops.ADD a b codes y ha hb hy = sum_range a b 0 y hy
result_range ops.AND a b codes y ha hb hy = (and_lt 32 a b ha hb, hy)
result_range ops.OR a b codes y ha hb hy = (or_lt 32 a b ha hb, hy)
result_range ops.XOR a b codes y ha hb hy = (xor_lt 32 a b ha hb, hy)
result_range ops.SUB a b codes y ha hb hy = difference_range a b 0 y hy
result_range ops.ANDN a b codes y ha hb hy = (and_lt 32 a (complement b) ha (complement_range b), hy)
result_range ops.ORN a b codes y ha hb hy = (or_lt 32 a (complement b) ha (complement_range b), hy)
result_range ops.XNOR a b codes y ha hb hy = (complement_range (bit_xor a b), hy)
result_range ops.ADDX a b codes y ha hb hy = sum_range a b (one_if codes.c) y hy
result_range ops.UMUL a b codes y ha hb hy = product_range (a * b) (mul-lt a b (2 ^ 32) (2 ^ 32) ha hb)
result_range ops.SMUL a b codes y ha hb hy = product_range (signed_product a b) (signed_product_range a b ha hb)
result_range ops.SUBX a b codes y ha hb hy = difference_range a b (one_if codes.c) y hy
result_range ops.UDIV a b codes y ha hb hy = divided_range b (unsigned_quotient a b y) (unsigned_range _ y hy)
result_range ops.SDIV a b codes y ha hb hy =
    divided_range b (signed_quotient a b y) (signed_range (differ (is_negative y) (is_negative b)) (dividend_magnitude a y / magnitude b) y hy)
result_range ops.TADDcc a b codes y ha hb hy = tags_range a b (sum_out a b 0 y) (sum_range a b 0 y hy)
result_range ops.TSUBcc a b codes y ha hb hy = tags_range a b (difference_out a b 0 y) (difference_range a b 0 y hy)
result_range ops.TADDccTV a b codes y ha hb hy =
    trap_range (with_tags a b (sum_out a b 0 y)) (tags_range a b (sum_out a b 0 y) (sum_range a b 0 y hy))
result_range ops.TSUBccTV a b codes y ha hb hy =
    trap_range (with_tags a b (difference_out a b 0 y)) (tags_range a b (difference_out a b 0 y) (difference_range a b 0 y hy))
result_range ops.MULScc a b codes y ha hb hy = (wrapped_range _, omega arith)
result_range ops.SLL a b codes y ha hb hy = (wrapped_range _, hy)
result_range ops.SRL a b codes y ha hb hy =
    let low : a / 2 ^ count_of b ≤ a = div-le_self a (2 ^ count_of b) in (omega arith, hy)
result_range ops.SRA a b codes y ha hb hy = (shifted_range a (count_of b) ha, hy)

kept_range : (cc : Bool) (codes : Codes) (r : Result AluOut AluTrap) → IsOutInRange r → IsOutInRange (keeping cc codes r)
kept_range false codes (Ok o) h = h
kept_range cc codes r h = h

pub alu_of-range : (op : AluOp) (cc : Bool) (a b : ℕ) (codes : Codes) (y : ℕ) → a < 2 ^ 32 → b < 2 ^ 32 → y < 2 ^ 32 → IsOutInRange (alu_of op cc a b codes y)
unfolding alu_of
alu_of-range op cc a b codes y ha hb hy = kept_range cc codes (result_of op a b codes y) (result_range op a b codes y ha hb hy)

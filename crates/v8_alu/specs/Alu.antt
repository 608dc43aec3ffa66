-- Integer arithmetic: what an operation makes of its operands, and the codes that it sets, by appendix B
-- of The SPARC Architecture Manual, Version 8. Numbers of 32 bits are from 0 to 2 ^ 32 - 1. "Here" marks
-- what this machine chooses where the manual leaves it to an implementation.
use Rattle.std.specs.Prelude.{ℕ, ◌+◌, ◌-◌, ◌*◌, ◌/◌, ◌%◌, ◌^◌, Bool, true, false, not, ◌&&◌, ◌||◌, Result, Ok, Err, nat_lt, nat_le, ◌==◌, if◌then◌else◌, bit_and, bit_or, bit_xor}
use Rattle.v8_decode.specs.declared.AluOp.{AluOp}
use Rattle.v8_decode.specs.declared.AluOp.TheVariants as ops
use Rattle.v8_alu.specs.declared.Codes.{Codes}
use Rattle.v8_alu.specs.declared.AluOut.{AluOut}
use Rattle.v8_alu.specs.declared.AluTrap.{AluTrap}
use Rattle.v8_alu.specs.declared.AluTrap.TheVariants.{DivZero, TagOverflow}
use Rattle.v8_alu.specs.Numbers.{wrapped, is_negative, complement, magnitude, differ, one_if}

-- V and C, with N and Z of a value (section 4.2)
abbrev pub codes_of : ℕ → Bool → Bool → Codes
codes_of value v c = record { n = is_negative value; z = value == 0; v = v; c = c }

abbrev pub out : ℕ → Codes → ℕ → Result AluOut AluTrap
out value codes y = Ok (record { value = value; codes = codes; y = y })

-- the operands have one sign, and the sum has the other (B.13)
abbrev pub sum_overflows : ℕ → ℕ → ℕ → Bool
sum_overflows a b sum =
    not (differ (is_negative a) (is_negative b)) && differ (is_negative a) (is_negative sum)

-- the operands have different signs, and the difference has not that of the first (B.15)
abbrev pub difference_overflows : ℕ → ℕ → ℕ → Bool
difference_overflows a b difference =
    differ (is_negative a) (is_negative b) && differ (is_negative a) (is_negative difference)

-- a sum with a carry in; C is the carry out of bit 31 (B.13)
abbrev pub sum_out : ℕ → ℕ → ℕ → ℕ → Result AluOut AluTrap
sum_out a b carry y =
    let sum = wrapped (a + b + carry) in
    out sum (codes_of sum (sum_overflows a b sum) (nat_le (2 ^ 32) (a + b + carry))) y

-- a difference with a borrow in; C is the borrow into bit 31 (B.15)
abbrev pub difference_out : ℕ → ℕ → ℕ → ℕ → Result AluOut AluTrap
difference_out a b borrow y =
    let difference = wrapped (2 ^ 33 + a - (b + borrow)) in
    out difference (codes_of difference (difference_overflows a b difference) (nat_lt a (b + borrow))) y

-- V and C become 0 (B.11)
abbrev pub logic_out : ℕ → ℕ → Result AluOut AluTrap
logic_out value y = out value (codes_of value false false) y

-- how far a shift goes: the low five bits of the second operand (B.12)
abbrev pub count_of : ℕ → ℕ
count_of b = b % 32

-- bits on the left are filled with bit 31
abbrev pub shifted_right : ℕ → ℕ → ℕ
shifted_right a count =
    if is_negative a then complement (complement a / 2 ^ count) else a / 2 ^ count

-- the low two bits of an operand are not 0 (B.14, B.16)
abbrev pub is_tagged : ℕ → ℕ → Bool
is_tagged a b = not (a % 4 == 0) || not (b % 4 == 0)

-- V is set also where an operand is tagged; the other codes are those of the sum or difference, here
abbrev pub with_tags : ℕ → ℕ → Result AluOut AluTrap → Result AluOut AluTrap
with_tags a b (Ok o) = Ok (record o { codes = record o.codes { v = o.codes.v || is_tagged a b } })
with_tags a b (Err trap) = Err trap

-- a trap in place of V (B.14, B.16)
abbrev pub trap_on_v : Result AluOut AluTrap → Result AluOut AluTrap
trap_on_v (Ok o) = if o.codes.v then Err TagOverflow else Ok o
trap_on_v (Err trap) = Err trap

-- N xor V, above the first operand without its lowest bit, plus the second if Y ends in 1; that bit goes
-- above Y without its own. The codes are those of the sum, here (B.17).
abbrev pub multiply_step : ℕ → ℕ → Codes → ℕ → Result AluOut AluTrap
multiply_step a b codes y =
    let shifted = one_if (differ codes.n codes.v) * 2 ^ 31 + a / 2 in
    sum_out shifted (if y % 2 == 0 then 0 else b) 0 (a % 2 * 2 ^ 31 + y / 2)

-- the low word of a product of 64 bits, with its codes, and the high word in Y; V and C become 0 (B.18)
abbrev pub product_out : ℕ → Result AluOut AluTrap
product_out product = logic_out (wrapped product) (product / 2 ^ 32)

-- a product of signed numbers, in two's complement of 64 bits
abbrev pub signed_product : ℕ → ℕ → ℕ
signed_product a b =
    if differ (is_negative a) (is_negative b)
    then (2 ^ 64 - magnitude a * magnitude b) % 2 ^ 64
    else magnitude a * magnitude b

-- Y, then the first operand (B.19)
abbrev pub dividend_of : ℕ → ℕ → ℕ
dividend_of a y = y * 2 ^ 32 + a

-- a quotient; C becomes 0, and Y stays, here (B.19)
abbrev pub quotient_out : ℕ → Bool → ℕ → Result AluOut AluTrap
quotient_out value v y = out value (codes_of value v false) y

-- a quotient that does not fit gives the greatest number, with V, here
abbrev pub unsigned_end : ℕ → ℕ → Result AluOut AluTrap
unsigned_end size y =
    if nat_lt size (2 ^ 32) then quotient_out size false y else quotient_out (2 ^ 32 - 1) true y

abbrev pub unsigned_quotient : ℕ → ℕ → ℕ → Result AluOut AluTrap
unsigned_quotient a b y = unsigned_end (dividend_of a y / b) y

-- the absolute value of the signed dividend
abbrev pub dividend_magnitude : ℕ → ℕ → ℕ
dividend_magnitude a y = if is_negative y then 2 ^ 64 - dividend_of a y else dividend_of a y

-- a quotient by its sign and absolute value; one that does not fit gives the nearer end, with V, here
abbrev pub signed_end : Bool → ℕ → ℕ → Result AluOut AluTrap
signed_end true size y =
    if nat_le size (2 ^ 31) then quotient_out (wrapped (2 ^ 32 - size)) false y else quotient_out (2 ^ 31) true y
signed_end false size y =
    if nat_lt size (2 ^ 31) then quotient_out size false y else quotient_out (2 ^ 31 - 1) true y

-- rounded toward zero, here
abbrev pub signed_quotient : ℕ → ℕ → ℕ → Result AluOut AluTrap
signed_quotient a b y =
    signed_end (differ (is_negative y) (is_negative b)) (dividend_magnitude a y / magnitude b) y

-- a divisor of 0 traps, before all else (B.19)
abbrev pub divided : ℕ → Result AluOut AluTrap → Result AluOut AluTrap
divided b quotient = if b == 0 then Err DivZero else quotient

-- the value of an operation, the codes that it sets where it sets them, and Y
abbrev pub result_of : AluOp → ℕ → ℕ → Codes → ℕ → Result AluOut AluTrap
result_of ops.ADD a b codes y = sum_out a b 0 y  -- B.13
result_of ops.AND a b codes y = logic_out (bit_and a b) y  -- B.11
result_of ops.OR a b codes y = logic_out (bit_or a b) y  -- B.11
result_of ops.XOR a b codes y = logic_out (bit_xor a b) y  -- B.11
result_of ops.SUB a b codes y = difference_out a b 0 y  -- B.15
result_of ops.ANDN a b codes y = logic_out (bit_and a (complement b)) y  -- B.11
result_of ops.ORN a b codes y = logic_out (bit_or a (complement b)) y  -- B.11
result_of ops.XNOR a b codes y = logic_out (complement (bit_xor a b)) y  -- B.11
result_of ops.ADDX a b codes y = sum_out a b (one_if codes.c) y  -- B.13
result_of ops.UMUL a b codes y = product_out (a * b)  -- B.18
result_of ops.SMUL a b codes y = product_out (signed_product a b)  -- B.18
result_of ops.SUBX a b codes y = difference_out a b (one_if codes.c) y  -- B.15
result_of ops.UDIV a b codes y = divided b (unsigned_quotient a b y)  -- B.19
result_of ops.SDIV a b codes y = divided b (signed_quotient a b y)  -- B.19
result_of ops.TADDcc a b codes y = with_tags a b (sum_out a b 0 y)  -- B.14
result_of ops.TSUBcc a b codes y = with_tags a b (difference_out a b 0 y)  -- B.16
result_of ops.TADDccTV a b codes y = trap_on_v (with_tags a b (sum_out a b 0 y))  -- B.14
result_of ops.TSUBccTV a b codes y = trap_on_v (with_tags a b (difference_out a b 0 y))  -- B.16
result_of ops.MULScc a b codes y = multiply_step a b codes y  -- B.17
result_of ops.SLL a b codes y = logic_out (wrapped (a * 2 ^ count_of b)) y  -- B.12
result_of ops.SRL a b codes y = logic_out (a / 2 ^ count_of b) y  -- B.12
result_of ops.SRA a b codes y = logic_out (shifted_right a (count_of b)) y  -- B.12

-- an operation without cc leaves the codes
abbrev pub keeping : Bool → Codes → Result AluOut AluTrap → Result AluOut AluTrap
keeping true codes r = r
keeping false codes (Ok o) = Ok (record o { codes = codes })
keeping false codes (Err trap) = Err trap

-- what an operation makes of its operands
unfoldable pub alu_of : AluOp → Bool → ℕ → ℕ → Codes → ℕ → Result AluOut AluTrap
alu_of op cc a b codes y = keeping cc codes (result_of op a b codes y)

-- The registers through which a JMPL's target goes: two that it doesn't name.
use Rattle.std.specs.Prelude.{◌≢◌, ℕ, ◌<◌, Bool, not, ◌||◌, ◌==◌, if◌then◌else◌}
use Rattle.v8_decode.specs.declared.Op2.{Op2}
use Rattle.v8_decode.specs.declared.Op2.TheVariants.{Reg, Imm}

-- the register isn't one that the second operand names
abbrev pub IsNotIn : ℕ → Op2 → Type 0
IsNotIn x (Reg r) = (r < 32) × (r ≢ x)
IsNotIn x (Imm n) = Unit {0}

-- nor is it %g0, or another that the JMPL names
pub record IsApart (x rd rs1 : ℕ) (op2 : Op2) : Type 0 where
  pub some : 0 < x
  pub below : x < 32
  pub rd_below : rd < 32
  pub rs1_below : rs1 < 32
  pub rd_not : rd ≢ x
  pub rs1_not : rs1 ≢ x
  pub op2_not : IsNotIn x op2

-- ---- the two that are taken

-- the register that a second operand names; %g0 where it names none
abbrev pub second_register : Op2 → ℕ
second_register (Reg rs2) = rs2
second_register (Imm simm13) = 0

-- whether a number is one of three
abbrev pub is_one_of : ℕ → ℕ → ℕ → ℕ → Bool
is_one_of number a b c = (a == number) || (b == number) || (c == number)

-- the first of %g1 to %g4 that is none of three registers
abbrev pub first_free : ℕ → ℕ → ℕ → ℕ
first_free a b c =
    if not (is_one_of 1 a b c) then 1 else
    if not (is_one_of 2 a b c) then 2 else
    if not (is_one_of 3 a b c) then 3 else 4

-- the first of them that the JMPL doesn't name
abbrev pub free_register : ℕ → ℕ → Op2 → ℕ
free_register rd rs1 op2 = first_free rd rs1 (second_register op2)

-- the second: the first of %g1 to %g5 that is none of four
abbrev pub is_one_of_four : ℕ → ℕ → ℕ → ℕ → ℕ → Bool
is_one_of_four number a b c d = is_one_of number a b c || (d == number)

abbrev pub next_free : ℕ → ℕ → ℕ → ℕ → ℕ
next_free a b c d =
    if not (is_one_of_four 1 a b c d) then 1 else
    if not (is_one_of_four 2 a b c d) then 2 else
    if not (is_one_of_four 3 a b c d) then 3 else
    if not (is_one_of_four 4 a b c d) then 4 else 5

abbrev pub other_register : ℕ → ℕ → Op2 → ℕ
other_register rd rs1 op2 = next_free rd rs1 (second_register op2) (free_register rd rs1 op2)

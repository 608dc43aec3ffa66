-- What contracts of this crate's code and laws cite beyond the statement.
use Rattle.std.specs.Prelude.{Bool, true, ℕ, ◌+◌, ◌-◌, ◌^◌, nat_lt, ◌<◌, Result, IfOk}
use Rattle.v8_decode.specs.declared.Instr.{Instr}
use Rattle.v8_decode.specs.declared.Instr.TheVariants as i
use Rattle.v8_decode.specs.Forms.{has_form}
use Rattle.v8_alu.specs.declared.Codes.{Codes}
use Rattle.v8_alu.specs.Numbers.{wrapped}
use Rattle.v8_alu.specs.Alu.{codes_of, difference_overflows}
use Rattle.v8_alu.specs.declared.AluOut.{AluOut}
use Rattle.v8_alu.specs.declared.AluTrap.{AluTrap}

-- whether a word can have the operation of an instruction with its cc
abbrev pub alu_has_form : Instr → Bool
alu_has_form (i.Alu op cc rd rs1 op2) = has_form op cc
alu_has_form _ = true

-- the codes of a difference
abbrev pub compared_codes : ℕ → ℕ → Codes
compared_codes a b =
    let difference = wrapped (2 ^ 33 + a - (b + 0)) in
    codes_of difference (difference_overflows a b difference) (nat_lt a (b + 0))

-- the value and Y have 32 bits
abbrev pub IsOutInRange : Result AluOut AluTrap → Type 0
IsOutInRange r = IfOk r (λ o. (o.value < 2 ^ 32) × (o.y < 2 ^ 32))

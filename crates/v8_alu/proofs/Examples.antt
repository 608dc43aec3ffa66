-- Facts that compute: what some of the definitions say of one case.
use Rattle.std.specs.Prelude.{false, ◌≡◌, true, refl}
use Rattle.v8_alu.specs.declared.Codes.{Codes}
use Rattle.v8_decode.specs.declared.AluOp.TheVariants as ops
use Rattle.v8_alu.specs.Alu.{out, alu_of}

-- The operations compute.
pub clear : Codes
clear = record { n = false; z = false; v = false; c = false }

pub greatest_quotient : alu_of ops.SDIV true 0 0xffffffff clear 0x80000000 ≡ out 0x7fffffff (record { n = false; z = false; v = true; c = false }) 0x80000000
unfolding alu_of clear
greatest_quotient = refl

one_step : alu_of ops.MULScc true 3 5 clear 1 ≡ out 6 clear 0x80000000
unfolding alu_of clear
one_step = refl

-- Facts that compute: what some of the definitions say of one case.
use Rattle.std.specs.Prelude.{◌≡◌, pos, refl, false, negsuc, [], ◌∷◌, true}
use Rattle.v8_decode.specs.declared.Instr.TheVariants as i
use Rattle.v8_decode.specs.declared.Op2.TheVariants.{Imm}
use Rattle.v8_decode.specs.Words.{arithmetic, decode_of, branch_or_sethi}
use Rattle.v8_decode.specs.declared.AluOp.TheVariants as ops
use Rattle.v8_decode.specs.declared.Op2.TheVariants as o
use Rattle.v8_decode.specs.declared.StoreKind.TheVariants as stores
use Rattle.v8_decode.specs.declared.Part.TheVariants.{Reg, Icc, Y}
use Rattle.v8_decode.specs.Parts.{every_part, members}
use Rattle.v8_decode.specs.Effects.{read_set, write_set}

-- The table computes.
pub trap_16 : decode_of 0x91d02010 ≡ i.Ticc 8 0 (Imm (pos 16))
unfolding decode_of arithmetic
trap_16 = refl

subtract_one : decode_of 0x90603fff ≡ i.Alu ops.SUBX false 8 0 (Imm (negsuc 0))
unfolding decode_of arithmetic
subtract_one = refl

zeros : decode_of 0 ≡ i.Illegal
unfolding decode_of branch_or_sethi
zeros = refl

-- The sets compute.
stored_pair : read_set (i.Store stores.STD 2 16 (o.Reg 31)) ≡ Reg 2 ∷ Reg 3 ∷ Reg 16 ∷ Reg 31 ∷ []
unfolding every_part members
stored_pair = refl

multiply_step : write_set (i.Alu ops.MULScc true 0 0 (o.Reg 1)) ≡ Icc ∷ Y ∷ []
unfolding every_part members
multiply_step = refl

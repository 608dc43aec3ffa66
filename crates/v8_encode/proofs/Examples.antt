-- Facts that compute: what some of the definitions say of one case.
use Rattle.std.specs.Prelude.{◌≡◌, false, Some, negsuc, refl, None}
use Rattle.v8_decode.specs.declared.Instr.TheVariants as i
use Rattle.v8_decode.specs.declared.Op2.TheVariants as o
use Rattle.v8_decode.specs.declared.AluOp.TheVariants as ops
use Rattle.v8_encode.specs.Code.{encode_of}

-- The words compute.
pub subtract_one : encode_of (i.Alu ops.SUBX false 8 0 (o.Imm (negsuc 0))) ≡ Some 0x90603fff
unfolding encode_of
subtract_one = refl

too_wide : encode_of (i.Sethi 1 4194304) ≡ None
unfolding encode_of
too_wide = refl

-- What holds of every instruction that a word can be.
use Rattle.std.specs.Prelude.{ℕ, ◌%◌, Bool, true, ◌&&◌, nat_lt, ◌==◌}
use Rattle.v8_decode.specs.declared.Op2.{Op2}
use Rattle.v8_decode.specs.declared.Op2.TheVariants as o
use Rattle.v8_decode.specs.declared.Instr.{Instr}
use Rattle.v8_decode.specs.declared.Instr.TheVariants as i
use Rattle.v8_decode.specs.declared.LoadKind.TheVariants as loads
use Rattle.v8_decode.specs.declared.StoreKind.TheVariants as stores

-- a doubleword has an even rd (B.1, B.4)
abbrev pub has_even_pair : Instr → Bool
has_even_pair (i.Load loads.LDD rd rs1 op2) = rd % 2 == 0
has_even_pair (i.Store stores.STD rd rs1 op2) = rd % 2 == 0
has_even_pair _ = true

-- Registers have numbers below 32 and conditions below 16.
abbrev pub op2_in_range : Op2 → Bool
op2_in_range (o.Reg rs2) = nat_lt rs2 32
op2_in_range (o.Imm simm13) = true

abbrev pub operands_in_range : ℕ → Op2 → Bool
operands_in_range rs1 op2 = nat_lt rs1 32 && op2_in_range op2

abbrev pub is_in_range : Instr → Bool
is_in_range (i.Sethi rd imm22) = nat_lt rd 32
is_in_range (i.Branch cond annul disp22) = nat_lt cond 16
is_in_range (i.Call disp30) = true
is_in_range (i.Alu op cc rd rs1 op2) = nat_lt rd 32 && operands_in_range rs1 op2
is_in_range (i.ReadY rd) = nat_lt rd 32
is_in_range (i.WriteY rs1 op2) = operands_in_range rs1 op2
is_in_range (i.Jmpl rd rs1 op2) = nat_lt rd 32 && operands_in_range rs1 op2
is_in_range (i.Ticc cond rs1 op2) = nat_lt cond 16 && operands_in_range rs1 op2
is_in_range (i.Flush rs1 op2) = operands_in_range rs1 op2
is_in_range i.Stbar = true
is_in_range (i.Save rd rs1 op2) = nat_lt rd 32 && operands_in_range rs1 op2
is_in_range (i.Restore rd rs1 op2) = nat_lt rd 32 && operands_in_range rs1 op2
is_in_range (i.Load kind rd rs1 op2) = nat_lt rd 32 && operands_in_range rs1 op2
is_in_range (i.Store kind rd rs1 op2) = nat_lt rd 32 && operands_in_range rs1 op2
is_in_range (i.Ldstub rd rs1 op2) = nat_lt rd 32 && operands_in_range rs1 op2
is_in_range (i.Swap rd rs1 op2) = nat_lt rd 32 && operands_in_range rs1 op2
is_in_range i.Illegal = true
is_in_range i.Privileged = true
is_in_range i.FpOff = true
is_in_range i.CpOff = true

-- Common instructions as records without a choice among their fields, which are quick to carry out.
use Rattle.std.specs.Prelude.{◌≡◌, ℕ, zero, suc, ◌*◌, ◌%◌, ◌⊎◌, Bool, false, true, ℤ, pos, ◌==◌}
use Rattle.std.specs.Int.{w32, cast_unsigned}
use Rattle.v8_decode.specs.declared.AluOp.{AluOp}
use Rattle.v8_decode.specs.declared.AluOp.TheVariants as ops
use Rattle.v8_decode.specs.declared.LoadKind.TheVariants as loads
use Rattle.v8_decode.specs.declared.StoreKind.TheVariants as stores
use Rattle.v8_decode.specs.declared.Op2.{Op2}
use Rattle.v8_decode.specs.declared.Op2.TheVariants.{Reg, Imm}
use Rattle.v8_decode.specs.declared.Instr.{Instr}
use Rattle.v8_decode.specs.declared.Instr.TheVariants as i
use Rattle.v8_memory.specs.declared.ops.Predecoded.{Predecoded}
use Rattle.v8_memory.specs.declared.ops.OpCode.{OpCode}
use Rattle.v8_memory.specs.declared.ops.OpCode.TheVariants as c

-- the second operand: an immediate beside %g0, else a register
abbrev pub operand_in : ℕ → ℤ → Op2
operand_in zero imm = Imm imm
operand_in (suc r) imm = Reg (suc r)

abbrev pub alu_in : AluOp → Bool → Predecoded → Instr
alu_in op cc x = i.Alu op cc x.rd x.rs1 (operand_in x.rs2 x.imm)

-- what a code says of the fields beside it
abbrev pub instr_by : OpCode → Predecoded → Instr
instr_by c.Sethi x = i.Sethi x.rd (cast_unsigned w32 x.imm)
instr_by c.B0 x = i.Branch 0 (x.rd == 1) x.imm
instr_by c.B1 x = i.Branch 1 (x.rd == 1) x.imm
instr_by c.B2 x = i.Branch 2 (x.rd == 1) x.imm
instr_by c.B3 x = i.Branch 3 (x.rd == 1) x.imm
instr_by c.B4 x = i.Branch 4 (x.rd == 1) x.imm
instr_by c.B5 x = i.Branch 5 (x.rd == 1) x.imm
instr_by c.B6 x = i.Branch 6 (x.rd == 1) x.imm
instr_by c.B7 x = i.Branch 7 (x.rd == 1) x.imm
instr_by c.B8 x = i.Branch 8 (x.rd == 1) x.imm
instr_by c.B9 x = i.Branch 9 (x.rd == 1) x.imm
instr_by c.B10 x = i.Branch 10 (x.rd == 1) x.imm
instr_by c.B11 x = i.Branch 11 (x.rd == 1) x.imm
instr_by c.B12 x = i.Branch 12 (x.rd == 1) x.imm
instr_by c.B13 x = i.Branch 13 (x.rd == 1) x.imm
instr_by c.B14 x = i.Branch 14 (x.rd == 1) x.imm
instr_by c.B15 x = i.Branch 15 (x.rd == 1) x.imm
instr_by c.Call x = i.Call x.imm
instr_by c.Add x = alu_in ops.ADD false x
instr_by c.AddCc x = alu_in ops.ADD true x
instr_by c.Sub x = alu_in ops.SUB false x
instr_by c.SubCc x = alu_in ops.SUB true x
instr_by c.And x = alu_in ops.AND false x
instr_by c.AndCc x = alu_in ops.AND true x
instr_by c.Or x = alu_in ops.OR false x
instr_by c.OrCc x = alu_in ops.OR true x
instr_by c.Xor x = alu_in ops.XOR false x
instr_by c.XorCc x = alu_in ops.XOR true x
instr_by c.Andn x = alu_in ops.ANDN false x
instr_by c.AndnCc x = alu_in ops.ANDN true x
instr_by c.Orn x = alu_in ops.ORN false x
instr_by c.Xnor x = alu_in ops.XNOR false x
instr_by c.XnorCc x = alu_in ops.XNOR true x
instr_by c.Addx x = alu_in ops.ADDX false x
instr_by c.AddxCc x = alu_in ops.ADDX true x
instr_by c.Subx x = alu_in ops.SUBX false x
instr_by c.SubxCc x = alu_in ops.SUBX true x
instr_by c.Umul x = alu_in ops.UMUL false x
instr_by c.Smul x = alu_in ops.SMUL false x
instr_by c.Udiv x = alu_in ops.UDIV false x
instr_by c.Sdiv x = alu_in ops.SDIV false x
instr_by c.MulsCc x = alu_in ops.MULScc true x
instr_by c.Sll x = alu_in ops.SLL false x
instr_by c.Srl x = alu_in ops.SRL false x
instr_by c.Sra x = alu_in ops.SRA false x
instr_by c.ReadY x = i.ReadY x.rd
instr_by c.WriteY x = i.WriteY x.rs1 (operand_in x.rs2 x.imm)
instr_by c.Ld x = i.Load loads.LD x.rd x.rs1 (operand_in x.rs2 x.imm)
instr_by c.Ldub x = i.Load loads.LDUB x.rd x.rs1 (operand_in x.rs2 x.imm)
instr_by c.Lduh x = i.Load loads.LDUH x.rd x.rs1 (operand_in x.rs2 x.imm)
instr_by c.Ldsb x = i.Load loads.LDSB x.rd x.rs1 (operand_in x.rs2 x.imm)
instr_by c.Ldsh x = i.Load loads.LDSH x.rd x.rs1 (operand_in x.rs2 x.imm)
instr_by c.Ldd x = i.Load loads.LDD (2 * (x.rd % 16)) x.rs1 (operand_in x.rs2 x.imm)
instr_by c.St x = i.Store stores.ST x.rd x.rs1 (operand_in x.rs2 x.imm)
instr_by c.Stb x = i.Store stores.STB x.rd x.rs1 (operand_in x.rs2 x.imm)
instr_by c.Sth x = i.Store stores.STH x.rd x.rs1 (operand_in x.rs2 x.imm)
instr_by c.Std x = i.Store stores.STD (2 * (x.rd % 16)) x.rs1 (operand_in x.rs2 x.imm)
instr_by c.Swap x = i.Swap x.rd x.rs1 (operand_in x.rs2 x.imm)
instr_by c.Jmpl x = i.Jmpl x.rd x.rs1 (operand_in x.rs2 x.imm)
instr_by c.Save x = i.Save x.rd x.rs1 (operand_in x.rs2 x.imm)
instr_by c.Restore x = i.Restore x.rd x.rs1 (operand_in x.rs2 x.imm)
instr_by c.Other x = i.Illegal

-- the instruction that a record stands for
unfoldable pub instr_of : Predecoded → Instr
instr_of x = instr_by x.code x

-- A second operand that is %g0 and the immediate 0 mean the same. Here it is the immediate.
abbrev pub plain_operand : Op2 → Op2
plain_operand (Reg zero) = Imm (pos 0)
plain_operand x = x

abbrev pub plain : Instr → Instr
plain (i.Alu op cc rd rs1 op2) = i.Alu op cc rd rs1 (plain_operand op2)
plain (i.WriteY rs1 op2) = i.WriteY rs1 (plain_operand op2)
plain (i.Jmpl rd rs1 op2) = i.Jmpl rd rs1 (plain_operand op2)
plain (i.Save rd rs1 op2) = i.Save rd rs1 (plain_operand op2)
plain (i.Restore rd rs1 op2) = i.Restore rd rs1 (plain_operand op2)
plain (i.Load kind rd rs1 op2) = i.Load kind rd rs1 (plain_operand op2)
plain (i.Store kind rd rs1 op2) = i.Store kind rd rs1 (plain_operand op2)
plain (i.Swap rd rs1 op2) = i.Swap rd rs1 (plain_operand op2)
plain x = x

-- the immediate stands beside %g0, and a register beside 0, so that the operand is their sum
abbrev pub IsSum : ℕ → ℤ → Type 0
IsSum rs2 imm = (rs2 ≡ 0) ⊎ (imm ≡ pos 0)

-- a record of this instruction
pub record Stands (x : Predecoded) (instr : Instr) : Type 0 where
  pub same : instr_of x ≡ plain instr
  pub sum : IsSum x.rs2 x.imm

-- The registers, codes and Y that an instruction reads and writes, by appendix B of The SPARC Architecture Manual, Version 8.
use Rattle.std.specs.Prelude.{ℕ, zero, suc, Bool, true, false, not, ◌&&◌, List, [], ◌∷◌, ◌++◌, ◌==◌, if◌then◌else◌}
use Rattle.v8_decode.specs.declared.AluOp.{AluOp}
use Rattle.v8_decode.specs.declared.AluOp.TheVariants as ops
use Rattle.v8_decode.specs.declared.Op2.{Op2}
use Rattle.v8_decode.specs.declared.Op2.TheVariants as o
use Rattle.v8_decode.specs.declared.Instr.{Instr}
use Rattle.v8_decode.specs.declared.Instr.TheVariants as i
use Rattle.v8_decode.specs.declared.LoadKind.{LoadKind}
use Rattle.v8_decode.specs.declared.LoadKind.TheVariants as loads
use Rattle.v8_decode.specs.declared.StoreKind.{StoreKind}
use Rattle.v8_decode.specs.declared.StoreKind.TheVariants as stores
use Rattle.v8_decode.specs.declared.Part.{Part}
use Rattle.v8_decode.specs.declared.Part.TheVariants.{Reg, Icc, Y}
use Rattle.v8_decode.specs.Parts.{every_part, set_of}

-- a register as a part; %g0 reads as 0 and drops what is written (section 4.1), so it is none
abbrev pub reg : ℕ → List Part
reg zero = []
reg (suc r) = Reg (suc r) ∷ []

abbrev pub op2_parts : Op2 → List Part
op2_parts (o.Reg rs2) = reg rs2
op2_parts (o.Imm simm13) = []

abbrev pub when : Bool → List Part → List Part
when true ps = ps
when false ps = []

-- what an operation takes besides its operands: a carry (B.13, B.15), N, V and Y (B.17), a dividend's high word (B.19)
abbrev pub alu_inputs : AluOp → List Part
alu_inputs ops.ADDX = Icc ∷ []
alu_inputs ops.SUBX = Icc ∷ []
alu_inputs ops.MULScc = Icc ∷ Y ∷ []
alu_inputs ops.UDIV = Y ∷ []
alu_inputs ops.SDIV = Y ∷ []
alu_inputs _ = []

-- multiplications and the multiply step write Y (B.17, B.18)
abbrev pub writes_y : AluOp → Bool
writes_y ops.UMUL = true
writes_y ops.SMUL = true
writes_y ops.MULScc = true
writes_y _ = false

-- the registers of a pair (B.1, B.4)
abbrev pub pair : ℕ → List Part
pair rd = reg rd ++ reg (suc rd)

abbrev pub stored_parts : StoreKind → ℕ → List Part
stored_parts stores.STD rd = pair rd
stored_parts _ rd = reg rd

abbrev pub loaded_parts : LoadKind → ℕ → List Part
loaded_parts loads.LDD rd = pair rd
loaded_parts _ rd = reg rd

-- every condition but never, 0, and always, 8 (table F-7)
abbrev pub is_conditional : ℕ → Bool
is_conditional cond = not (cond == 0) && not (cond == 8)

-- SAVE, RESTORE and Ticc, which can spill and fill windows or call the system, count as reading every part
abbrev pub reads_all : Instr → Bool
reads_all (i.Save rd rs1 op2) = true
reads_all (i.Restore rd rs1 op2) = true
reads_all (i.Ticc cond rs1 op2) = true
reads_all _ = false

-- the parts that the other instructions read
abbrev pub reads_of : Instr → List Part
reads_of (i.Branch cond annul disp22) = when (is_conditional cond) (Icc ∷ [])  -- B.21
reads_of (i.Alu op cc rd rs1 op2) = reg rs1 ++ op2_parts op2 ++ alu_inputs op  -- B.11 to B.19
reads_of (i.ReadY rd) = Y ∷ []  -- B.28
reads_of (i.WriteY rs1 op2) = reg rs1 ++ op2_parts op2  -- B.29
reads_of (i.Jmpl rd rs1 op2) = reg rs1 ++ op2_parts op2  -- B.25
reads_of (i.Flush rs1 op2) = reg rs1 ++ op2_parts op2  -- B.32: its address, which the machine here has no use for
reads_of (i.Load kind rd rs1 op2) = reg rs1 ++ op2_parts op2  -- B.1
reads_of (i.Store kind rd rs1 op2) = reg rs1 ++ op2_parts op2 ++ stored_parts kind rd  -- B.4
reads_of (i.Ldstub rd rs1 op2) = reg rs1 ++ op2_parts op2  -- B.7
reads_of (i.Swap rd rs1 op2) = reg rs1 ++ op2_parts op2 ++ reg rd  -- B.8
reads_of _ = []

-- the parts that an instruction writes; SAVE, RESTORE and Ticc count as writing none
abbrev pub writes_of : Instr → List Part
writes_of (i.Sethi rd imm22) = reg rd  -- B.9
writes_of (i.Call disp30) = reg 15  -- B.24
writes_of (i.Alu op cc rd rs1 op2) = reg rd ++ when cc (Icc ∷ []) ++ when (writes_y op) (Y ∷ [])  -- B.11 to B.19
writes_of (i.ReadY rd) = reg rd  -- B.28
writes_of (i.WriteY rs1 op2) = Y ∷ []  -- B.29
writes_of (i.Jmpl rd rs1 op2) = reg rd  -- B.25
writes_of (i.Load kind rd rs1 op2) = loaded_parts kind rd  -- B.1
writes_of (i.Ldstub rd rs1 op2) = reg rd  -- B.7
writes_of (i.Swap rd rs1 op2) = reg rd  -- B.8
writes_of _ = []

-- the same as sets
abbrev pub read_set : Instr → List Part
read_set instr = if reads_all instr then every_part else set_of (reads_of instr)

abbrev pub write_set : Instr → List Part
write_set instr = set_of (writes_of instr)

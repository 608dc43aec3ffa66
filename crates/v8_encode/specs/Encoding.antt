-- The word of an instruction, by the formats of section 5.2 and the opcodes of appendix F of The SPARC Architecture Manual, Version 8.
use Rattle.std.specs.Prelude.{ℕ, suc, ◌+◌, ◌-◌, ◌*◌, ◌^◌, Bool, true, false, ℤ, pos, negsuc}
use Rattle.v8_decode.specs.declared.Instr.{Instr}
use Rattle.v8_decode.specs.declared.Instr.TheVariants as i
use Rattle.v8_decode.specs.declared.Op2.{Op2}
use Rattle.v8_decode.specs.declared.Op2.TheVariants as o
use Rattle.v8_decode.specs.declared.AluOp.{AluOp}
use Rattle.v8_decode.specs.declared.AluOp.TheVariants as ops
use Rattle.v8_decode.specs.declared.LoadKind.{LoadKind}
use Rattle.v8_decode.specs.declared.LoadKind.TheVariants as loads
use Rattle.v8_decode.specs.declared.StoreKind.{StoreKind}
use Rattle.v8_decode.specs.declared.StoreKind.TheVariants as stores

-- the field of `width` bits that holds it
abbrev pub signed_field : ℕ → ℤ → ℕ
signed_field width (pos n) = n
signed_field width (negsuc n) = 2 ^ width - suc n

-- bits 13 to 0 of format 3: i and rs2, or i and simm13
abbrev pub op2_field : Op2 → ℕ
op2_field (o.Reg rs2) = rs2
op2_field (o.Imm simm13) = 2 ^ 13 + signed_field 13 simm13

abbrev pub format3 : ℕ → ℕ → ℕ → ℕ → Op2 → ℕ
format3 op rd op3 rs1 op2 = op * 2 ^ 30 + rd * 2 ^ 25 + op3 * 2 ^ 19 + rs1 * 2 ^ 14 + op2_field op2

-- format 2, where `high` is bits 29 to 25: rd, or annul and cond
abbrev pub format2 : ℕ → ℕ → ℕ → ℕ
format2 high op2 low = high * 2 ^ 25 + op2 * 2 ^ 22 + low

-- the op3 of the form that leaves the codes, and 0x10 more for the form that sets them (table F-3)
abbrev pub with_cc : ℕ → Bool → ℕ
with_cc op3 true = op3 + 0x10
with_cc op3 false = op3

abbrev pub alu_op3 : AluOp → Bool → ℕ
alu_op3 ops.ADD cc = with_cc 0x00 cc
alu_op3 ops.AND cc = with_cc 0x01 cc
alu_op3 ops.OR cc = with_cc 0x02 cc
alu_op3 ops.XOR cc = with_cc 0x03 cc
alu_op3 ops.SUB cc = with_cc 0x04 cc
alu_op3 ops.ANDN cc = with_cc 0x05 cc
alu_op3 ops.ORN cc = with_cc 0x06 cc
alu_op3 ops.XNOR cc = with_cc 0x07 cc
alu_op3 ops.ADDX cc = with_cc 0x08 cc
alu_op3 ops.UMUL cc = with_cc 0x0a cc
alu_op3 ops.SMUL cc = with_cc 0x0b cc
alu_op3 ops.SUBX cc = with_cc 0x0c cc
alu_op3 ops.UDIV cc = with_cc 0x0e cc
alu_op3 ops.SDIV cc = with_cc 0x0f cc
alu_op3 ops.TADDcc cc = 0x20
alu_op3 ops.TSUBcc cc = 0x21
alu_op3 ops.TADDccTV cc = 0x22
alu_op3 ops.TSUBccTV cc = 0x23
alu_op3 ops.MULScc cc = 0x24
alu_op3 ops.SLL cc = 0x25
alu_op3 ops.SRL cc = 0x26
alu_op3 ops.SRA cc = 0x27

-- table F-4
abbrev pub load_op3 : LoadKind → ℕ
load_op3 loads.LD = 0x00
load_op3 loads.LDUB = 0x01
load_op3 loads.LDUH = 0x02
load_op3 loads.LDD = 0x03
load_op3 loads.LDSB = 0x09
load_op3 loads.LDSH = 0x0a

abbrev pub store_op3 : StoreKind → ℕ
store_op3 stores.ST = 0x04
store_op3 stores.STB = 0x05
store_op3 stores.STH = 0x06
store_op3 stores.STD = 0x07

abbrev pub annul_bit : Bool → ℕ
annul_bit true = 1
annul_bit false = 0

-- its word, with 0 in each bit that its form does not use
abbrev pub word_of : Instr → ℕ
word_of (i.Sethi rd imm22) = format2 rd 4 imm22  -- B.9
word_of (i.Branch cond annul disp22) = format2 (annul_bit annul * 2 ^ 4 + cond) 2 (signed_field 22 disp22)  -- B.21
word_of (i.Call disp30) = 2 ^ 30 + signed_field 30 disp30  -- B.24
word_of (i.Alu op cc rd rs1 op2) = format3 2 rd (alu_op3 op cc) rs1 op2  -- B.11 to B.19
word_of (i.ReadY rd) = format3 2 rd 0x28 0 (o.Reg 0)  -- B.28
word_of (i.WriteY rs1 op2) = format3 2 0 0x30 rs1 op2  -- B.29
word_of (i.Jmpl rd rs1 op2) = format3 2 rd 0x38 rs1 op2  -- B.25
word_of (i.Ticc cond rs1 op2) = format3 2 cond 0x3a rs1 op2  -- B.27
word_of (i.Flush rs1 op2) = format3 2 0 0x3b rs1 op2  -- B.32
word_of i.Stbar = format3 2 0 0x28 15 (o.Reg 0)  -- B.30
word_of (i.Save rd rs1 op2) = format3 2 rd 0x3c rs1 op2  -- B.20
word_of (i.Restore rd rs1 op2) = format3 2 rd 0x3d rs1 op2  -- B.20
word_of (i.Load kind rd rs1 op2) = format3 3 rd (load_op3 kind) rs1 op2  -- B.1
word_of (i.Store kind rd rs1 op2) = format3 3 rd (store_op3 kind) rs1 op2  -- B.4
word_of (i.Ldstub rd rs1 op2) = format3 3 rd 0x0d rs1 op2  -- B.7
word_of (i.Swap rd rs1 op2) = format3 3 rd 0x0f rs1 op2  -- B.8
word_of i.Illegal = 0
word_of i.Privileged = 0
word_of i.FpOff = 0
word_of i.CpOff = 0

-- whether it is an instruction that runs here
abbrev pub is_instruction : Instr → Bool
is_instruction i.Illegal = false
is_instruction i.Privileged = false
is_instruction i.FpOff = false
is_instruction i.CpOff = false
is_instruction _ = true

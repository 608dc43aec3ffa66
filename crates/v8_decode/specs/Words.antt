-- What an instruction word says: the tables of appendix F, "Opcodes and Condition Codes", of The SPARC
-- Architecture Manual, Version 8. Each row has the section of appendix B that defines its instruction.
-- "Here" marks what this machine chooses where the manual leaves it to an implementation.
use Rattle.std.specs.Prelude.{ℕ, ◌-◌, ◌/◌, ◌%◌, ◌^◌, Bool, true, false, List, [], ◌∷◌, ℤ, pos, ◌-ℤ◌, nat_lt, ◌==◌, if◌then◌else◌}
use Rattle.v8_decode.specs.declared.Instr.{Instr}
use Rattle.v8_decode.specs.declared.Instr.TheVariants as i
use Rattle.v8_decode.specs.declared.Op2.{Op2}
use Rattle.v8_decode.specs.declared.Op2.TheVariants.{Imm}
use Rattle.v8_decode.specs.declared.Op2.TheVariants as o
use Rattle.v8_decode.specs.declared.AluOp.{AluOp}
use Rattle.v8_decode.specs.declared.AluOp.TheVariants as ops
use Rattle.v8_decode.specs.declared.LoadKind.{LoadKind}
use Rattle.v8_decode.specs.declared.LoadKind.TheVariants as loads
use Rattle.v8_decode.specs.declared.StoreKind.{StoreKind}
use Rattle.v8_decode.specs.declared.StoreKind.TheVariants as stores

-- the `width` bits of a word from bit `low` on, bit 0 being the lowest (section 5.2)
abbrev pub field : ℕ → ℕ → ℕ → ℕ
field w low width = w / 2 ^ low % 2 ^ width

-- a field of `width` bits as a number in two's complement
abbrev pub signed : ℕ → ℕ → ℤ
signed width n = if nat_lt n (2 ^ (width - 1)) then pos n else pos n -ℤ pos (2 ^ width)

-- the fields of format 3
abbrev pub rd_of : ℕ → ℕ
rd_of w = field w 25 5

abbrev pub op3_of : ℕ → ℕ
op3_of w = field w 19 6

abbrev pub rs1_of : ℕ → ℕ
rs1_of w = field w 14 5

abbrev pub cond_of : ℕ → ℕ
cond_of w = field w 25 4

-- the second operand of format 3: rs2 where i, bit 13, is 0, else simm13
abbrev pub op2_of : ℕ → Op2
op2_of w = if field w 13 1 == 0 then o.Reg (field w 0 5) else Imm (signed 13 (field w 0 13))

-- a row of a table: what a word of this row says
abbrev pub Row : Type 0
Row = ℕ → Instr

-- the row with this number; a number without a row is that of an illegal instruction
abbrev pub row_of : List (ℕ × Row) → ℕ → Row
row_of [] n w = i.Illegal
row_of (r ∷ rows) n w = if n == r.0 then r.1 w else row_of rows n w

abbrev pub alu : AluOp → Bool → Row
alu op cc w = i.Alu op cc (rd_of w) (rs1_of w) (op2_of w)

abbrev pub load : LoadKind → Row
load kind w = i.Load kind (rd_of w) (rs1_of w) (op2_of w)

abbrev pub store : StoreKind → Row
store kind w = i.Store kind (rd_of w) (rs1_of w) (op2_of w)

abbrev pub privileged : Row
privileged w = i.Privileged

abbrev pub fp_off : Row
fp_off w = i.FpOff

abbrev pub cp_off : Row
cp_off w = i.CpOff

-- a doubleword whose rd is odd is illegal here (B.1, B.4)
abbrev pub even_rd : Row → Row
even_rd row w = if rd_of w % 2 == 0 then row w else i.Illegal

-- rs1 tells RDY and STBAR apart; other ancillary state registers are illegal here (B.28, B.30)
abbrev pub read_state : Row
read_state w =
    if rs1_of w == 0 then i.ReadY (rd_of w) else
    if rs1_of w == 15 then (if rd_of w == 0 then i.Stbar else i.Illegal) else i.Illegal

-- rd names the register; those other than Y are illegal here (B.29)
abbrev pub write_state : Row
write_state w = if rd_of w == 0 then i.WriteY (rs1_of w) (op2_of w) else i.Illegal

-- table F-2, op 0: the rows by op2, bits 24 to 22
abbrev pub op2_rows : List (ℕ × Row)
op2_rows =
    (2, λ w. i.Branch (cond_of w) (field w 29 1 == 1) (signed 22 (field w 0 22)))  -- B.21 Bicc
    ∷ (4, λ w. i.Sethi (rd_of w) (field w 0 22))  -- B.9 SETHI, B.10 NOP
    ∷ (6, fp_off)  -- B.22 FBfcc
    ∷ (7, cp_off)  -- B.23 CBccc
    ∷ []  -- B.31 UNIMP: no row

-- table F-3, op 2: the rows by op3
abbrev pub arithmetic_rows : List (ℕ × Row)
arithmetic_rows =
    (0x00, alu ops.ADD false)  -- B.13 ADD
    ∷ (0x01, alu ops.AND false)  -- B.11 AND
    ∷ (0x02, alu ops.OR false)  -- B.11 OR
    ∷ (0x03, alu ops.XOR false)  -- B.11 XOR
    ∷ (0x04, alu ops.SUB false)  -- B.15 SUB
    ∷ (0x05, alu ops.ANDN false)  -- B.11 ANDN
    ∷ (0x06, alu ops.ORN false)  -- B.11 ORN
    ∷ (0x07, alu ops.XNOR false)  -- B.11 XNOR
    ∷ (0x08, alu ops.ADDX false)  -- B.13 ADDX
    ∷ (0x0a, alu ops.UMUL false)  -- B.18 UMUL
    ∷ (0x0b, alu ops.SMUL false)  -- B.18 SMUL
    ∷ (0x0c, alu ops.SUBX false)  -- B.15 SUBX
    ∷ (0x0e, alu ops.UDIV false)  -- B.19 UDIV
    ∷ (0x0f, alu ops.SDIV false)  -- B.19 SDIV
    ∷ (0x10, alu ops.ADD true)  -- B.13 ADDcc
    ∷ (0x11, alu ops.AND true)  -- B.11 ANDcc
    ∷ (0x12, alu ops.OR true)  -- B.11 ORcc
    ∷ (0x13, alu ops.XOR true)  -- B.11 XORcc
    ∷ (0x14, alu ops.SUB true)  -- B.15 SUBcc
    ∷ (0x15, alu ops.ANDN true)  -- B.11 ANDNcc
    ∷ (0x16, alu ops.ORN true)  -- B.11 ORNcc
    ∷ (0x17, alu ops.XNOR true)  -- B.11 XNORcc
    ∷ (0x18, alu ops.ADDX true)  -- B.13 ADDXcc
    ∷ (0x1a, alu ops.UMUL true)  -- B.18 UMULcc
    ∷ (0x1b, alu ops.SMUL true)  -- B.18 SMULcc
    ∷ (0x1c, alu ops.SUBX true)  -- B.15 SUBXcc
    ∷ (0x1e, alu ops.UDIV true)  -- B.19 UDIVcc
    ∷ (0x1f, alu ops.SDIV true)  -- B.19 SDIVcc
    ∷ (0x20, alu ops.TADDcc true)  -- B.14 TADDcc
    ∷ (0x21, alu ops.TSUBcc true)  -- B.16 TSUBcc
    ∷ (0x22, alu ops.TADDccTV true)  -- B.14 TADDccTV
    ∷ (0x23, alu ops.TSUBccTV true)  -- B.16 TSUBccTV
    ∷ (0x24, alu ops.MULScc true)  -- B.17 MULScc
    ∷ (0x25, alu ops.SLL false)  -- B.12 SLL
    ∷ (0x26, alu ops.SRL false)  -- B.12 SRL
    ∷ (0x27, alu ops.SRA false)  -- B.12 SRA
    ∷ (0x28, read_state)  -- B.28 RDY, RDASR; B.30 STBAR
    ∷ (0x29, privileged)  -- B.28 RDPSR
    ∷ (0x2a, privileged)  -- B.28 RDWIM
    ∷ (0x2b, privileged)  -- B.28 RDTBR
    ∷ (0x30, write_state)  -- B.29 WRY, WRASR
    ∷ (0x31, privileged)  -- B.29 WRPSR
    ∷ (0x32, privileged)  -- B.29 WRWIM
    ∷ (0x33, privileged)  -- B.29 WRTBR
    ∷ (0x34, fp_off)  -- B.33 FPop1
    ∷ (0x35, fp_off)  -- B.33 FPop2
    ∷ (0x36, cp_off)  -- B.34 CPop1
    ∷ (0x37, cp_off)  -- B.34 CPop2
    ∷ (0x38, λ w. i.Jmpl (rd_of w) (rs1_of w) (op2_of w))  -- B.25 JMPL
    ∷ (0x39, privileged)  -- B.26 RETT
    ∷ (0x3a, λ w. i.Ticc (cond_of w) (rs1_of w) (op2_of w))  -- B.27 Ticc
    ∷ (0x3b, λ w. i.Flush (rs1_of w) (op2_of w))  -- B.32 FLUSH
    ∷ (0x3c, λ w. i.Save (rd_of w) (rs1_of w) (op2_of w))  -- B.20 SAVE
    ∷ (0x3d, λ w. i.Restore (rd_of w) (rs1_of w) (op2_of w))  -- B.20 RESTORE
    ∷ []

-- table F-4, op 3: the rows by op3
abbrev pub memory_rows : List (ℕ × Row)
memory_rows =
    (0x00, load loads.LD)  -- B.1 LD
    ∷ (0x01, load loads.LDUB)  -- B.1 LDUB
    ∷ (0x02, load loads.LDUH)  -- B.1 LDUH
    ∷ (0x03, even_rd (load loads.LDD))  -- B.1 LDD
    ∷ (0x04, store stores.ST)  -- B.4 ST
    ∷ (0x05, store stores.STB)  -- B.4 STB
    ∷ (0x06, store stores.STH)  -- B.4 STH
    ∷ (0x07, even_rd (store stores.STD))  -- B.4 STD
    ∷ (0x09, load loads.LDSB)  -- B.1 LDSB
    ∷ (0x0a, load loads.LDSH)  -- B.1 LDSH
    ∷ (0x0d, λ w. i.Ldstub (rd_of w) (rs1_of w) (op2_of w))  -- B.7 LDSTUB
    ∷ (0x0f, λ w. i.Swap (rd_of w) (rs1_of w) (op2_of w))  -- B.8 SWAP
    ∷ (0x10, privileged)  -- B.1 LDA; i is not looked at here, nor in the rows below
    ∷ (0x11, privileged)  -- B.1 LDUBA
    ∷ (0x12, privileged)  -- B.1 LDUHA
    ∷ (0x13, privileged)  -- B.1 LDDA
    ∷ (0x14, privileged)  -- B.4 STA
    ∷ (0x15, privileged)  -- B.4 STBA
    ∷ (0x16, privileged)  -- B.4 STHA
    ∷ (0x17, privileged)  -- B.4 STDA
    ∷ (0x19, privileged)  -- B.1 LDSBA
    ∷ (0x1a, privileged)  -- B.1 LDSHA
    ∷ (0x1d, privileged)  -- B.7 LDSTUBA
    ∷ (0x1f, privileged)  -- B.8 SWAPA
    ∷ (0x20, fp_off)  -- B.2 LDF
    ∷ (0x21, fp_off)  -- B.2 LDFSR
    ∷ (0x23, fp_off)  -- B.2 LDDF
    ∷ (0x24, fp_off)  -- B.5 STF
    ∷ (0x25, fp_off)  -- B.5 STFSR
    ∷ (0x26, privileged)  -- B.5 STDFQ, which is privileged before it is absent, here
    ∷ (0x27, fp_off)  -- B.5 STDF
    ∷ (0x30, cp_off)  -- B.3 LDC
    ∷ (0x31, cp_off)  -- B.3 LDCSR
    ∷ (0x33, cp_off)  -- B.3 LDDC
    ∷ (0x34, cp_off)  -- B.6 STC
    ∷ (0x35, cp_off)  -- B.6 STCSR
    ∷ (0x36, privileged)  -- B.6 STDCQ, as STDFQ
    ∷ (0x37, cp_off)  -- B.6 STDC
    ∷ []

-- table F-2, on a word
unfoldable pub branch_or_sethi : Row
branch_or_sethi w = row_of op2_rows (field w 22 3) w

-- table F-3, on a word
unfoldable pub arithmetic : Row
arithmetic w = row_of arithmetic_rows (op3_of w) w

-- table F-4, on a word
unfoldable pub memory : Row
memory w = row_of memory_rows (op3_of w) w

-- format 1 (B.24 CALL)
abbrev pub call : Row
call w = i.Call (signed 30 (field w 0 30))

-- what a word says: table F-1, the rows by op, bits 31 and 30
unfoldable pub decode_of : Row
decode_of w = row_of ((0, branch_or_sethi) ∷ (1, call) ∷ (2, arithmetic) ∷ (3, memory) ∷ []) (field w 30 2) w

-- What is known of the registers behind a comparison: the values that the words after it give them.
use Rattle.std.specs.Prelude.{ℕ, zero, suc, ◌+◌, ◌*◌, ◌%◌, ◌^◌, Bool, false, ◌==◌, if◌then◌else◌, List, [], ◌∷◌, slice_index, slice_index_or, slice_set, bit_or}
use Rattle.std.specs.Int.{w32, cast_unsigned}
use Rattle.eel_base.specs.CodeText.{Words}
use Rattle.v8_decode.specs.declared.Op2.{Op2}
use Rattle.v8_decode.specs.declared.Op2.TheVariants as o
use Rattle.v8_decode.specs.declared.AluOp.{AluOp}
use Rattle.v8_decode.specs.declared.AluOp.TheVariants as ops
use Rattle.v8_decode.specs.declared.LoadKind.{LoadKind}
use Rattle.v8_decode.specs.declared.LoadKind.TheVariants as loads
use Rattle.v8_decode.specs.declared.Instr.{Instr}
use Rattle.v8_decode.specs.declared.Instr.TheVariants as i
use Rattle.v8_decode.specs.Words.{decode_of}
use Rattle.cfg_blocks.specs.declared.switches.Value.{Value}
use Rattle.cfg_blocks.specs.declared.switches.Value.TheVariants.{Unknown, Const, Index, Place, Entry}

-- ---- the values of the 32 registers of a window

-- so many registers of which nothing is known
abbrev pub unknown : ℕ → List Value
unknown zero = []
unknown (suc n) = Unknown ∷ unknown n

abbrev pub all_unknown : List Value
all_unknown = unknown 32

-- the value of a register; %g0 is 0
abbrev pub value_in : List Value → ℕ → Value
value_in values zero = Const 0
value_in values (suc r) = slice_index_or values (suc r) Unknown

-- a register gets a value; what is written to %g0 is dropped
abbrev pub put : List Value → ℕ → Value → List Value
put values zero v = values
put values (suc r) v = slice_set values (suc r) v

-- an immediate is a constant
abbrev pub operand_in : List Value → Op2 → Value
operand_in values (o.Reg r) = value_in values r
operand_in values (o.Imm n) = Const (cast_unsigned w32 n % 2 ^ 32)

-- ---- ADD, OR, SLL and LD (The SPARC Architecture Manual, Version 8, B.13, B.11, B.12 and B.1)

-- 0 and a value give the value
abbrev pub if_zero : ℕ → Value → Value
if_zero a v = if a == 0 then v else Unknown

abbrev pub plus_const : ℕ → Value → Value
plus_const a (Const b) = Const ((a + b) % 2 ^ 32)
plus_const a (Place c) = Place ((a + c) % 2 ^ 32)
plus_const a v = if_zero a v

abbrev pub plus : Value → Value → Value
plus (Const a) v = plus_const a v
plus v (Const b) = plus_const b v
plus _ _ = Unknown

abbrev pub either_const : ℕ → Value → Value
either_const a (Const b) = Const (bit_or a b)
either_const a v = if_zero a v

abbrev pub either : Value → Value → Value
either (Const a) v = either_const a v
either v (Const b) = if_zero b v
either _ _ = Unknown

-- the index shifted by 2 is four times the index
abbrev pub shifted : Value → Value → Value
shifted Index (Const b) = if b == 2 then Place 0 else Unknown
shifted _ _ = Unknown

abbrev pub loaded_at : Value → Value
loaded_at (Place c) = Entry c
loaded_at _ = Unknown

-- rs1 and the second operand, added
abbrev pub sum_in : List Value → ℕ → Op2 → Value
sum_in values rs1 op2 = plus (value_in values rs1) (operand_in values op2)

-- ---- words

-- what an operation gives; those that set the codes give nothing that is known
abbrev pub computed : List Value → AluOp → Bool → ℕ → Op2 → Value
computed values ops.ADD false rs1 op2 = sum_in values rs1 op2
computed values ops.OR false rs1 op2 = either (value_in values rs1) (operand_in values op2)
computed values ops.SLL false rs1 op2 = shifted (value_in values rs1) (operand_in values op2)
computed values op cc rs1 op2 = Unknown

abbrev pub after_load : List Value → LoadKind → ℕ → ℕ → Op2 → List Value
after_load values loads.LD rd rs1 op2 = put values rd (loaded_at (sum_in values rs1 op2))
after_load values loads.LDD rd rs1 op2 = put (put values rd Unknown) (suc rd) Unknown
after_load values kind rd rs1 op2 = put values rd Unknown

-- The values after an instruction. SAVE and RESTORE go to another window, and a trap may change any register; CALL
-- writes %o7.
unfoldable pub after : List Value → Instr → List Value
after values (i.Sethi rd imm22) = put values rd (Const ((1024 * imm22) % 2 ^ 32))
after values (i.Alu op cc rd rs1 op2) = put values rd (computed values op cc rs1 op2)
after values (i.Load kind rd rs1 op2) = after_load values kind rd rs1 op2
after values (i.ReadY rd) = put values rd Unknown
after values (i.Ldstub rd rs1 op2) = put values rd Unknown
after values (i.Swap rd rs1 op2) = put values rd Unknown
after values (i.Call disp30) = put values 15 Unknown
after values (i.Jmpl rd rs1 op2) = put values rd Unknown
after values (i.Save rd rs1 op2) = all_unknown
after values (i.Restore rd rs1 op2) = all_unknown
after values (i.Ticc cond rs1 op2) = all_unknown
after values _ = values

abbrev pub instr_at : Words → ℕ → Instr
instr_at text word = decode_of (slice_index text.words word)

-- the values after `count` words of a text, from the word `from` on
abbrev pub followed : Words → List Value → ℕ → ℕ → List Value
followed text values from zero = values
followed text values from (suc n) = after (followed text values from n) (instr_at text (from + n))

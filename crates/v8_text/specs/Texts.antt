-- The text of an instruction word, after appendix A ("Suggested Assembly Language Syntax") of The SPARC Architecture
-- Manual, Version 8, with one spelling for each word: a name, one space, and operands with commas and brackets alone
-- between them. A word that is no instruction, or has a bit set that its instruction ignores, is told as a number.
use Rattle.std.specs.Prelude.{ℕ, suc, ◌+◌, ◌*◌, ◌%◌, ◌^◌, Bool, not, ◌&&◌, if◌then◌else◌, List, [], ◌∷◌, ◌++◌, get_or, codes, decimal, ℤ, pos, negsuc}
use Rattle.std.specs.Int.{w32, cast_unsigned}
use Rattle.std.specs.List.{list_any, range_with_len}
use Rattle.eel_base.specs.CodeText.{Words}
use Rattle.eel_base.specs.Fields.{hex_of}
use Rattle.v8_decode.specs.declared.Instr.{Instr}
use Rattle.v8_decode.specs.declared.Instr.TheVariants as i
use Rattle.v8_decode.specs.contracts.InstrPartialEq.TheImpl as instr_eq
use Rattle.v8_decode.specs.declared.Op2.{Op2}
use Rattle.v8_decode.specs.declared.Op2.TheVariants as o
use Rattle.v8_decode.specs.declared.AluOp.{AluOp}
use Rattle.v8_decode.specs.declared.AluOp.TheVariants as ops
use Rattle.v8_decode.specs.declared.LoadKind.{LoadKind}
use Rattle.v8_decode.specs.declared.LoadKind.TheVariants as loads
use Rattle.v8_decode.specs.declared.StoreKind.{StoreKind}
use Rattle.v8_decode.specs.declared.StoreKind.TheVariants as stores
use Rattle.v8_decode.specs.Words.{decode_of}
use Rattle.v8_encode.specs.Encoding.{is_instruction}
use Rattle.line_words.specs.Registers.{register_text}

-- ---- names

-- the conditions by cond (B.21, B.27)
abbrev pub conditions : List (List ℕ)
conditions =
    codes "n" ∷ codes "e" ∷ codes "le" ∷ codes "l" ∷ codes "leu" ∷ codes "cs" ∷ codes "neg" ∷ codes "vs"
    ∷ codes "a" ∷ codes "ne" ∷ codes "g" ∷ codes "ge" ∷ codes "gu" ∷ codes "cc" ∷ codes "pos" ∷ codes "vc" ∷ []

abbrev pub condition_text : ℕ → List ℕ
condition_text cond = get_or conditions cond []

abbrev pub branch_text : ℕ → Bool → List ℕ
branch_text cond annul = codes "b" ++ condition_text cond ++ (if annul then codes ",a" else [])

abbrev pub trap_text : ℕ → List ℕ
trap_text cond = codes "t" ++ condition_text cond

-- of an operation that has a form for each
abbrev pub with_cc : List ℕ → Bool → List ℕ
with_cc name cc = if cc then name ++ codes "cc" else name

abbrev pub alu_text : AluOp → Bool → List ℕ
alu_text ops.ADD cc = with_cc (codes "add") cc
alu_text ops.AND cc = with_cc (codes "and") cc
alu_text ops.OR cc = with_cc (codes "or") cc
alu_text ops.XOR cc = with_cc (codes "xor") cc
alu_text ops.SUB cc = with_cc (codes "sub") cc
alu_text ops.ANDN cc = with_cc (codes "andn") cc
alu_text ops.ORN cc = with_cc (codes "orn") cc
alu_text ops.XNOR cc = with_cc (codes "xnor") cc
alu_text ops.ADDX cc = with_cc (codes "addx") cc
alu_text ops.UMUL cc = with_cc (codes "umul") cc
alu_text ops.SMUL cc = with_cc (codes "smul") cc
alu_text ops.SUBX cc = with_cc (codes "subx") cc
alu_text ops.UDIV cc = with_cc (codes "udiv") cc
alu_text ops.SDIV cc = with_cc (codes "sdiv") cc
alu_text ops.TADDcc cc = codes "taddcc"
alu_text ops.TSUBcc cc = codes "tsubcc"
alu_text ops.TADDccTV cc = codes "taddcctv"
alu_text ops.TSUBccTV cc = codes "tsubcctv"
alu_text ops.MULScc cc = codes "mulscc"
alu_text ops.SLL cc = codes "sll"
alu_text ops.SRL cc = codes "srl"
alu_text ops.SRA cc = codes "sra"

abbrev pub load_text : LoadKind → List ℕ
load_text loads.LD = codes "ld"
load_text loads.LDUB = codes "ldub"
load_text loads.LDUH = codes "lduh"
load_text loads.LDD = codes "ldd"
load_text loads.LDSB = codes "ldsb"
load_text loads.LDSH = codes "ldsh"

abbrev pub store_text : StoreKind → List ℕ
store_text stores.ST = codes "st"
store_text stores.STB = codes "stb"
store_text stores.STH = codes "sth"
store_text stores.STD = codes "std"

-- ---- operands

abbrev pub integer_text : ℤ → List ℕ
integer_text (pos n) = decimal n
integer_text (negsuc n) = 45 ∷ decimal (suc n)

abbrev pub op2_text : Op2 → List ℕ
op2_text (o.Reg reg) = register_text reg
op2_text (o.Imm number) = integer_text number

-- a name before its operands, and operands before others
abbrev pub named : List ℕ → List ℕ → List ℕ
named name operands = name ++ (32 ∷ operands)

abbrev pub comma : List ℕ → List ℕ → List ℕ
comma first others = first ++ (44 ∷ others)

-- rs1,op2
abbrev pub sources : ℕ → Op2 → List ℕ
sources rs1 op2 = comma (register_text rs1) (op2_text op2)

-- rs1,op2,rd
abbrev pub operands : ℕ → ℕ → Op2 → List ℕ
operands rd rs1 op2 = comma (register_text rs1) (comma (op2_text op2) (register_text rd))

-- [rs1,op2],rd and rd,[rs1,op2]
abbrev pub loaded : ℕ → ℕ → Op2 → List ℕ
loaded rd rs1 op2 = (91 ∷ sources rs1 op2) ++ (93 ∷ 44 ∷ register_text rd)

abbrev pub stored : ℕ → ℕ → Op2 → List ℕ
stored rd rs1 op2 = comma (register_text rd) ((91 ∷ sources rs1 op2) ++ (93 ∷ []))

-- where a transfer at an address leads whose displacement counts words
abbrev pub target_of : ℕ → ℤ → ℕ
target_of at displacement = (at + 4 * cast_unsigned w32 displacement) % 2 ^ 32

abbrev pub number_text : ℕ → List ℕ
number_text n = codes "0x" ++ hex_of n

-- ---- words

-- the instruction at an address
abbrev pub instr_text : ℕ → Instr → List ℕ
instr_text at (i.Sethi rd imm22) = named (codes "sethi") (comma (decimal imm22) (register_text rd))
instr_text at (i.Branch cond annul disp22) = named (branch_text cond annul) (number_text (target_of at disp22))
instr_text at (i.Call disp30) = named (codes "call") (number_text (target_of at disp30))
instr_text at (i.Alu op cc rd rs1 op2) = named (alu_text op cc) (operands rd rs1 op2)
instr_text at (i.ReadY rd) = named (codes "rd") (comma (codes "%y") (register_text rd))
instr_text at (i.WriteY rs1 op2) =
    named (codes "wr") (comma (register_text rs1) (comma (op2_text op2) (codes "%y")))
instr_text at (i.Jmpl rd rs1 op2) = named (codes "jmpl") (operands rd rs1 op2)
instr_text at (i.Ticc cond rs1 op2) = named (trap_text cond) (sources rs1 op2)
instr_text at (i.Flush rs1 op2) = named (codes "flush") (sources rs1 op2)
instr_text at i.Stbar = codes "stbar"
instr_text at (i.Save rd rs1 op2) = named (codes "save") (operands rd rs1 op2)
instr_text at (i.Restore rd rs1 op2) = named (codes "restore") (operands rd rs1 op2)
instr_text at (i.Load kind rd rs1 op2) = named (load_text kind) (loaded rd rs1 op2)
instr_text at (i.Store kind rd rs1 op2) = named (store_text kind) (stored rd rs1 op2)
instr_text at (i.Ldstub rd rs1 op2) = named (codes "ldstub") (loaded rd rs1 op2)
instr_text at (i.Swap rd rs1 op2) = named (codes "swap") (loaded rd rs1 op2)
instr_text at _ = []

-- a word that is told as a number
abbrev pub raw_text : ℕ → List ℕ
raw_text w = named (codes ".word") (number_text w)

-- two instructions are the same
abbrev pub same_instr : Instr → Instr → Bool
same_instr = (instr_eq.ghosts).eq

-- No lesser word decodes to the same instruction: the word has 0 in each bit that its instruction ignores.
unfoldable pub is_least : ℕ → Bool
is_least w = not (list_any (λ v. same_instr (decode_of v) (decode_of w)) (range_with_len 0 w))

-- the word is told as an instruction
abbrev pub is_spelled : ℕ → Bool
is_spelled w = is_instruction (decode_of w) && is_least w

-- the word at an address
unfoldable pub word_text : ℕ → ℕ → List ℕ
word_text at w = if is_spelled w then instr_text at (decode_of w) else raw_text w

-- ---- listings

-- the address of a word, and its text
abbrev pub line_text : ℕ → ℕ → List ℕ
line_text at w = hex_of at ++ (32 ∷ (word_text at w ++ (10 ∷ [])))

abbrev pub lines_from : ℕ → List ℕ → List ℕ
lines_from at [] = []
lines_from at (w ∷ words) = line_text at w ++ lines_from (at + 4) words

abbrev pub listing_text : Words → List ℕ
listing_text text = lines_from text.start text.words

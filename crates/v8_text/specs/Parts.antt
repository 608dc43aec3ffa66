-- The parts of which reading a text is made.
use Rattle.std.specs.Prelude.{ℕ, zero, suc, ◌+◌, ◌-◌, ◌/◌, ◌%◌, ◌^◌, Bool, true, false, ◌==◌, nat_le, if◌then◌else◌, List, [], ◌∷◌, length, codes, Option, Some, None, ℤ, pos, negsuc, ◌++◌}
use Rattle.std.specs.List.{find, range_with_len}
use Rattle.std.specs.Option.{option_map}
use Rattle.std.specs.Str.{bytes_eq}
use Rattle.line_words.specs.Words.{◌>>=◌, number_of, register_of, split_at}
use Rattle.v8_decode.specs.declared.Instr.{Instr}
use Rattle.v8_decode.specs.declared.Instr.TheVariants as i
use Rattle.v8_decode.specs.declared.Op2.{Op2}
use Rattle.v8_decode.specs.declared.Op2.TheVariants as o
use Rattle.v8_decode.specs.declared.AluOp.{AluOp}
use Rattle.v8_decode.specs.declared.AluOp.TheVariants as ops
use Rattle.v8_decode.specs.declared.LoadKind.{LoadKind}
use Rattle.v8_decode.specs.declared.LoadKind.TheVariants as loads
use Rattle.v8_decode.specs.declared.StoreKind.{StoreKind}
use Rattle.v8_decode.specs.declared.StoreKind.TheVariants as stores
use Rattle.v8_decode.specs.Words.{signed}
use Rattle.v8_encode.specs.Code.{encode_of}
use Rattle.line_words.specs.Registers.{hex_number_of}
use Rattle.v8_text.specs.declared.names.Name.{Name}
use Rattle.v8_text.specs.declared.names.Name.TheVariants as n
use Rattle.v8_text.specs.Texts.{alu_text, branch_text, is_spelled, load_text, store_text, trap_text}

-- ---- names

abbrev pub first_of : {A : Type 0} → Option A → Option A → Option A
first_of (Some x) other = Some x
first_of None other = other

-- the first number of a condition at which a name stands
abbrev pub condition_in : (ℕ → List ℕ) → List ℕ → Option ℕ
condition_in text name = find (λ cond. bytes_eq name (text cond)) (range_with_len 0 16)

-- the operations that leave the codes or set them, those that leave them, and those that set them
abbrev pub both : List AluOp
both =
    ops.ADD ∷ ops.AND ∷ ops.OR ∷ ops.XOR ∷ ops.SUB ∷ ops.ANDN ∷ ops.ORN ∷ ops.XNOR ∷ ops.ADDX ∷ ops.UMUL ∷ ops.SMUL
    ∷ ops.SUBX ∷ ops.UDIV ∷ ops.SDIV ∷ []

abbrev pub leaving : List AluOp
leaving = both ++ ops.SLL ∷ ops.SRL ∷ ops.SRA ∷ []

abbrev pub setting : List AluOp
setting = both ++ ops.TADDcc ∷ ops.TSUBcc ∷ ops.TADDccTV ∷ ops.TSUBccTV ∷ ops.MULScc ∷ []

abbrev pub alu_in : List AluOp → Bool → List ℕ → Option AluOp
alu_in alus cc name = find (λ op. bytes_eq name (alu_text op cc)) alus

abbrev pub all_loads : List LoadKind
all_loads = loads.LD ∷ loads.LDUB ∷ loads.LDUH ∷ loads.LDD ∷ loads.LDSB ∷ loads.LDSH ∷ []

abbrev pub load_in : List ℕ → Option LoadKind
load_in name = find (λ kind. bytes_eq name (load_text kind)) all_loads

abbrev pub all_stores : List StoreKind
all_stores = stores.ST ∷ stores.STB ∷ stores.STH ∷ stores.STD ∷ []

abbrev pub store_in : List ℕ → Option StoreKind
store_in name = find (λ kind. bytes_eq name (store_text kind)) all_stores

-- names that stand for one instruction each
unfoldable pub single_of : List ℕ → Option Name
single_of name =
    if bytes_eq name (codes "sethi") then Some n.Sethi else
    (if bytes_eq name (codes "call") then Some n.Call else
    (if bytes_eq name (codes "jmpl") then Some n.Jmpl else
    (if bytes_eq name (codes "save") then Some n.Save else
    (if bytes_eq name (codes "restore") then Some n.Restore else
    (if bytes_eq name (codes "rd") then Some n.ReadY else
    (if bytes_eq name (codes "wr") then Some n.WriteY else
    (if bytes_eq name (codes "flush") then Some n.Flush else
    (if bytes_eq name (codes "ldstub") then Some n.Ldstub else
    (if bytes_eq name (codes "swap") then Some n.Swap else None)))))))))

-- names that a condition, an operation or a size is part of
unfoldable pub joined_of : List ℕ → Option Name
joined_of name =
    first_of (option_map (λ op. n.Alu op false) (alu_in leaving false name))
    (first_of (option_map (λ op. n.Alu op true) (alu_in setting true name))
    (first_of (option_map (λ cond. n.Branch cond false) (condition_in (λ cond. branch_text cond false) name))
    (first_of (option_map (λ cond. n.Branch cond true) (condition_in (λ cond. branch_text cond true) name))
    (first_of (option_map n.Ticc (condition_in trap_text name))
    (first_of (option_map n.Load (load_in name))
    (option_map n.Store (store_in name)))))))

unfoldable pub name_of : List ℕ → Option Name
name_of name = first_of (joined_of name) (single_of name)

-- ---- operands

-- what stands behind a byte that comes first
unfoldable pub behind : ℕ → List ℕ → Option (List ℕ)
behind mark [] = None
behind mark (byte ∷ bytes) = if byte == mark then Some bytes else None

-- a number that may fit an immediate operand
abbrev pub small : ℕ → Option ℕ
small n = if nat_le n 4096 then Some n else None

abbrev pub below_zero : ℕ → Option ℤ
below_zero zero = None
below_zero (suc n) = Some (negsuc n)

abbrev pub integer_by : Option (List ℕ) → List ℕ → Option ℤ
integer_by (Some digits) word = (number_of digits >>= small) >>= below_zero
integer_by None word = option_map pos (number_of word >>= small)

unfoldable pub integer_of : List ℕ → Option ℤ
integer_of word = integer_by (behind 45 word) word

unfoldable pub op2_of : List ℕ → Option Op2
op2_of word = first_of (option_map o.Reg (register_of word)) (option_map o.Imm (integer_of word))

-- rs1,op2
unfoldable pub sources_of : List ℕ → Option (ℕ × Op2)
sources_of word = do
  parts ← split_at 44 word
  rs1 ← register_of parts.0
  op2 ← op2_of parts.1
  Some (rs1, op2)

-- rs1,op2,rd
unfoldable pub operands_of : List ℕ → Option (ℕ × ℕ × Op2)
operands_of word = do
  first ← split_at 44 word
  rs1 ← register_of first.0
  second ← split_at 44 first.1
  op2 ← op2_of second.0
  rd ← register_of second.1
  Some (rd, rs1, op2)

-- [rs1,op2],rd
unfoldable pub loaded_of : List ℕ → Option (ℕ × ℕ × Op2)
loaded_of word = do
  parts ← split_at 93 word
  inner ← behind 91 parts.0
  from ← sources_of inner
  last ← behind 44 parts.1
  rd ← register_of last
  Some (rd, from.0, from.1)

abbrev pub if_ends : {A : Type 0} → List ℕ → A → Option A
if_ends rest x = if length rest == 0 then Some x else None

-- rd,[rs1,op2]
unfoldable pub stored_of : List ℕ → Option (ℕ × ℕ × Op2)
stored_of word = do
  first ← split_at 44 word
  rd ← register_of first.0
  rest ← behind 91 first.1
  parts ← split_at 93 rest
  from ← sources_of parts.0
  if_ends parts.1 (rd, from.0, from.1)

-- imm22,rd
unfoldable pub sethi_of : List ℕ → Option Instr
sethi_of word = do
  parts ← split_at 44 word
  imm22 ← number_of parts.0
  rd ← register_of parts.1
  Some (i.Sethi rd imm22)

-- %y,rd
unfoldable pub read_y_of : List ℕ → Option Instr
read_y_of word = do
  parts ← split_at 44 word
  rd ← register_of parts.1
  if bytes_eq parts.0 (codes "%y") then Some (i.ReadY rd) else None

-- rs1,op2,%y
unfoldable pub write_y_of : List ℕ → Option Instr
write_y_of word = do
  first ← split_at 44 word
  rs1 ← register_of first.0
  second ← split_at 44 first.1
  op2 ← op2_of second.0
  if bytes_eq second.1 (codes "%y") then Some (i.WriteY rs1 op2) else None

-- 0x and eight digits
unfoldable pub number_in : List ℕ → Option ℕ
number_in word = do
  rest ← behind 48 word
  digits ← behind 120 rest
  hex_number_of digits

-- how many words a transfer leads on
abbrev pub words_between : ℕ → ℕ → Option ℤ
words_between at target =
    let distance = (target + (2 ^ 32 - at)) % 2 ^ 32 in if distance % 4 == 0 then Some (signed 30 (distance / 4)) else None

unfoldable pub displacement_of : ℕ → List ℕ → Option ℤ
displacement_of at word = do
  target ← number_in word
  words_between at target

-- ---- words

abbrev pub with_operands : (ℕ → ℕ → Op2 → Instr) → Option (ℕ × ℕ × Op2) → Option Instr
with_operands make parts = option_map (λ p. make p.0 p.1 p.2) parts

abbrev pub with_sources : (ℕ → Op2 → Instr) → Option (ℕ × Op2) → Option Instr
with_sources make parts = option_map (λ p. make p.0 p.1) parts

-- the instruction of a name with its operands
unfoldable pub instr_in : ℕ → Name → List ℕ → Option Instr
instr_in at n.Sethi word = sethi_of word
instr_in at (n.Branch cond annul) word = option_map (i.Branch cond annul) (displacement_of at word)
instr_in at n.Call word = option_map i.Call (displacement_of at word)
instr_in at (n.Alu op cc) word = with_operands (i.Alu op cc) (operands_of word)
instr_in at n.ReadY word = read_y_of word
instr_in at n.WriteY word = write_y_of word
instr_in at n.Jmpl word = with_operands i.Jmpl (operands_of word)
instr_in at (n.Ticc cond) word = with_sources (i.Ticc cond) (sources_of word)
instr_in at n.Flush word = with_sources i.Flush (sources_of word)
instr_in at n.Save word = with_operands i.Save (operands_of word)
instr_in at n.Restore word = with_operands i.Restore (operands_of word)
instr_in at (n.Load kind) word = with_operands (i.Load kind) (loaded_of word)
instr_in at (n.Store kind) word = with_operands (i.Store kind) (stored_of word)
instr_in at n.Ldstub word = with_operands i.Ldstub (loaded_of word)
instr_in at n.Swap word = with_operands i.Swap (loaded_of word)

-- the instruction that a text is
unfoldable pub instr_of : ℕ → List ℕ → Option Instr
instr_of at text =
    if bytes_eq text (codes "stbar") then Some i.Stbar else do
      parts ← split_at 32 text
      name ← name_of parts.0
      instr_in at name parts.1

-- a word that is told as a number, and has no other text
abbrev pub unspelled : ℕ → Option ℕ
unspelled w = if is_spelled w then None else Some w

unfoldable pub raw_of : List ℕ → Option ℕ
raw_of text = do
  parts ← split_at 32 text
  digits ← if bytes_eq parts.0 (codes ".word") then Some parts.1 else None
  w ← number_in digits
  unspelled w

-- the word that a text is
unfoldable pub word_in : ℕ → List ℕ → Option ℕ
word_in at text = first_of (instr_of at text >>= encode_of) (raw_of text)

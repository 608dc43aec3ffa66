-- The word of an instruction decodes to it.
use Rattle.v8_encode.proofs.Common.{◌≡◌, ℕ, ◌+◌, ◌*◌, ◌^◌, ◌<◌, Bool, true, cond, ◌&&◌, nat_lt, ◌==◌, ℤ, refl, sym, ap, ap₂, ◌∙◌, arith, if◌then◌else◌, and_parts, true≢false, ltb-true, nat_tests, Instr, Op2, AluOp, LoadKind, StoreKind, has_form, field, signed, rd_of, op3_of, rs1_of, cond_of, op2_of, Row, row_of, alu, load, store, arithmetic_rows, memory_rows, arithmetic, decode_of, has_even_pair, op2_in_range, operands_in_range, is_in_range, decode_of-call, decode_of-format2, decode_of-arithmetic, decode_of-memory, fits_signed, op2_fits, has_word, signed_field, op2_field, alu_op3, load_op3, store_op3, format2, format3, word_of, annul_bit}
use Rattle.v8_decode.specs.declared.Instr.TheVariants as i
use Rattle.v8_decode.specs.declared.Op2.TheVariants as o
use Rattle.v8_decode.specs.declared.LoadKind.TheVariants as loads
use Rattle.v8_decode.specs.declared.StoreKind.TheVariants as stores
use Rattle.v8_encode.proofs.Fields.{format3_fields, op2_field-lt, op2_of-field, signed_field-lt, signed-signed_field}
pub use Rattle.v8_encode.proofs.Examples.{subtract_one}

-- the row of an operation's form
arithmetic-row : (op : AluOp) (sets : Bool) → has_form op sets ≡ true → (w : ℕ) → row_of arithmetic_rows (alu_op3 op sets) w ≡ alu op sets w
arithmetic-row op sets h w = grind arith

load-row : (kind : LoadKind) (rd rs1 w : ℕ) (op2 : Op2) → rd_of w ≡ rd → has_even_pair (i.Load kind rd rs1 op2) ≡ true
    → row_of memory_rows (load_op3 kind) w ≡ load kind w
load-row loads.LDD rd rs1 w op2 e h = rw (e, h) refl
load-row kind rd rs1 w op2 e h = refl

store-row : (kind : StoreKind) (rd rs1 w : ℕ) (op2 : Op2) → rd_of w ≡ rd → has_even_pair (i.Store kind rd rs1 op2) ≡ true
    → row_of memory_rows (store_op3 kind) w ≡ store kind w
store-row stores.STD rd rs1 w op2 e h = rw (e, h) refl
store-row kind rd rs1 w op2 e h = refl

-- each opcode has six bits
alu_op3-small : (op : AluOp) (sets : Bool) → nat_lt (alu_op3 op sets) 64 ≡ true
alu_op3-small op sets = grind (arith, nat_tests)

load_op3-small : (kind : LoadKind) → nat_lt (load_op3 kind) 64 ≡ true
load_op3-small kind = grind (arith, nat_tests)

store_op3-small : (kind : StoreKind) → nat_lt (store_op3 kind) 64 ≡ true
store_op3-small kind = grind (arith, nat_tests)

-- what a word of format 3 says of its fields
record Says (op rd op3 rs1 : ℕ) (op2 : Op2) (w : ℕ) : Type 0 where
  the_op : field w 30 2 ≡ op
  the_rd : rd_of w ≡ rd
  the_op3 : op3_of w ≡ op3
  the_rs1 : rs1_of w ≡ rs1
  the_op2 : op2_of w ≡ op2

says : (op rd op3 rs1 : ℕ) (op2 : Op2) → op < 4 → rd < 32 → op3 < 64 → operands_in_range rs1 op2 ≡ true → op2_fits op2 ≡ true
    → Says op rd op3 rs1 op2 (format3 op rd op3 rs1 op2)
says op rd op3 rs1 op2 h0 h1 h2 range fits =
    let parts = and_parts (nat_lt rs1 32) (op2_in_range op2) range in
    let fields = format3_fields op rd op3 rs1 (op2_field op2) h0 h1 h2 (ltb-true rs1 32 parts.0) (op2_field-lt op2 fits parts.1) in
    assumption (fields, op2_of-field op2 (format3 op rd op3 rs1 op2) fits parts.1 fields.the_low)

operands : {op rd op3 rs1 : ℕ} {op2 : Op2} {w : ℕ} → (row : ℕ → Op2 → Instr) → Says op rd op3 rs1 op2 w → row (rs1_of w) (op2_of w) ≡ row rs1 op2
operands row s = ap₂ row s.the_rs1 s.the_op2

all_fields : {op rd op3 rs1 : ℕ} {op2 : Op2} {w : ℕ} → (row : ℕ → ℕ → Op2 → Instr) → Says op rd op3 rs1 op2 w → row (rd_of w) (rs1_of w) (op2_of w) ≡ row rd rs1 op2
all_fields {rd = rd} {w = w} row s = ap (λ x. row x (rs1_of w) (op2_of w)) s.the_rd ∙ operands (row rd) s

-- a word of table F-3 or F-4 with rd, rs1 and op2
decoded3 : {op rd rs1 : ℕ} {op2 : Op2} {rows : ℕ → Row} → ((w n : ℕ) → field w 30 2 ≡ op → op3_of w ≡ n → decode_of w ≡ rows n w)
    → (row : ℕ → ℕ → Op2 → Instr) (op3 : ℕ) → (op < 4) × (op3 < 64)
    → ((w : ℕ) → rd_of w ≡ rd → rows op3 w ≡ row (rd_of w) (rs1_of w) (op2_of w))
    → (nat_lt rd 32 && operands_in_range rs1 op2) ≡ true → op2_fits op2 ≡ true
    → decode_of (format3 op rd op3 rs1 op2) ≡ row rd rs1 op2
decoded3 {op} {rd} {rs1} {op2} decoded row op3 below is range fits =
    let parts = and_parts (nat_lt rd 32) (operands_in_range rs1 op2) range in
    let s = says op rd op3 rs1 op2 below.0 (ltb-true rd 32 parts.0) below.1 parts.1 fits in
    decoded (format3 op rd op3 rs1 op2) op3 s.the_op s.the_op3 ∙ is (format3 op rd op3 rs1 op2) s.the_rd ∙ all_fields row s

annul_bit-is : (annul : Bool) → (annul_bit annul == 1) ≡ annul
annul_bit-is annul = grind arith

annul_bit-lt : (annul : Bool) → annul_bit annul < 2
annul_bit-lt annul = grind arith

decoded_sethi : (rd imm22 : ℕ) → nat_lt rd 32 ≡ true → nat_lt imm22 (2 ^ 22) ≡ true → decode_of (format2 rd 4 imm22) ≡ i.Sethi rd imm22
decoded_sethi rd imm22 range fits =
    let number = ltb-true rd 32 range in
    let value = ltb-true imm22 (2 ^ 22) fits in
    let w = format2 rd 4 imm22 in
    let op : field w 30 2 ≡ 0 = omega arith in
    let op2 : field w 22 3 ≡ 4 = omega arith in
    let the_rd : rd_of w ≡ rd = omega arith in
    let the_imm22 : field w 0 22 ≡ imm22 = omega arith in
    decode_of-format2 w 4 op op2 ∙ ap₂ i.Sethi the_rd the_imm22

decoded_branch : (cond : ℕ) (annul : Bool) (disp22 : ℤ) → nat_lt cond 16 ≡ true → fits_signed 22 disp22 ≡ true
    → decode_of (format2 (annul_bit annul * 2 ^ 4 + cond) 2 (signed_field 22 disp22)) ≡ i.Branch cond annul disp22
decoded_branch cond annul disp22 range fits =
    let number = ltb-true cond 16 range in
    let bit = annul_bit-lt annul in
    let value = signed_field-lt 22 disp22 refl fits in
    let w = format2 (annul_bit annul * 2 ^ 4 + cond) 2 (signed_field 22 disp22) in
    let op : field w 30 2 ≡ 0 = omega arith in
    let op2 : field w 22 3 ≡ 2 = omega arith in
    let the_cond : cond_of w ≡ cond = omega arith in
    let the_annul : field w 29 1 ≡ annul_bit annul = omega arith in
    let the_disp22 : field w 0 22 ≡ signed_field 22 disp22 = omega arith in
    decode_of-format2 w 2 op op2
    ∙ rw (the_cond, the_annul, the_disp22, annul_bit-is annul, signed-signed_field 22 disp22 refl fits) refl

decoded_call : (disp30 : ℤ) → fits_signed 30 disp30 ≡ true → decode_of (2 ^ 30 + signed_field 30 disp30) ≡ i.Call disp30
decoded_call disp30 fits =
    let value = signed_field-lt 30 disp30 refl fits in
    let w = 2 ^ 30 + signed_field 30 disp30 in
    let op : field w 30 2 ≡ 1 = omega arith in
    let the_disp30 : field w 0 30 ≡ signed_field 30 disp30 = omega arith in
    decode_of-call w op ∙ ap i.Call (ap (signed 30) the_disp30 ∙ signed-signed_field 30 disp30 refl fits)

decoded_read_y : (rd : ℕ) → nat_lt rd 32 ≡ true → decode_of (format3 2 rd 0x28 0 (o.Reg 0)) ≡ i.ReadY rd
decoded_read_y rd range =
    let s = says 2 rd 0x28 0 (o.Reg 0) (omega arith) (ltb-true rd 32 range) (omega arith) refl refl in
    let w = format3 2 rd 0x28 0 (o.Reg 0) in
    decode_of-arithmetic w 0x28 s.the_op s.the_op3
    ∙ ap (λ x. if x == 0 then i.ReadY (rd_of w) else (if x == 15 then (if rd_of w == 0 then i.Stbar else i.Illegal) else i.Illegal)) s.the_rs1
    ∙ ap i.ReadY s.the_rd

decoded_stbar : decode_of (word_of i.Stbar) ≡ i.Stbar
unfolding decode_of arithmetic
decoded_stbar = refl

decoded_write_y : (rs1 : ℕ) (op2 : Op2) → operands_in_range rs1 op2 ≡ true → op2_fits op2 ≡ true → decode_of (format3 2 0 0x30 rs1 op2) ≡ i.WriteY rs1 op2
decoded_write_y rs1 op2 range fits =
    let s = says 2 0 0x30 rs1 op2 (omega arith) (omega arith) (omega arith) range fits in
    let w = format3 2 0 0x30 rs1 op2 in
    decode_of-arithmetic w 0x30 s.the_op s.the_op3
    ∙ ap (λ x. if x == 0 then i.WriteY (rs1_of w) (op2_of w) else i.Illegal) s.the_rd
    ∙ operands i.WriteY s

decoded_flush : (rs1 : ℕ) (op2 : Op2) → operands_in_range rs1 op2 ≡ true → op2_fits op2 ≡ true → decode_of (format3 2 0 0x3b rs1 op2) ≡ i.Flush rs1 op2
decoded_flush rs1 op2 range fits =
    let s = says 2 0 0x3b rs1 op2 (omega arith) (omega arith) (omega arith) range fits in
    decode_of-arithmetic (format3 2 0 0x3b rs1 op2) 0x3b s.the_op s.the_op3 ∙ operands i.Flush s

decoded_ticc : (cond rs1 : ℕ) (op2 : Op2) → (nat_lt cond 16 && operands_in_range rs1 op2) ≡ true → op2_fits op2 ≡ true
    → decode_of (format3 2 cond 0x3a rs1 op2) ≡ i.Ticc cond rs1 op2
decoded_ticc cond rs1 op2 range fits =
    let parts = and_parts (nat_lt cond 16) (operands_in_range rs1 op2) range in
    let number = ltb-true cond 16 parts.0 in
    let s = says 2 cond 0x3a rs1 op2 (omega arith) (omega arith) (omega arith) parts.1 fits in
    let w = format3 2 cond 0x3a rs1 op2 in
    let the_rd = s.the_rd in
    let the_cond : cond_of w ≡ cond = omega arith in
    decode_of-arithmetic w 0x3a s.the_op s.the_op3 ∙ ap (λ x. i.Ticc x (rs1_of w) (op2_of w)) the_cond ∙ operands (i.Ticc cond) s

pub decode_of-word_of : (instr : Instr) → is_in_range instr ≡ true → has_word instr ≡ true → decode_of (word_of instr) ≡ instr
decode_of-word_of (i.Sethi rd imm22) range has = decoded_sethi rd imm22 range has
decode_of-word_of (i.Branch cond annul disp22) range has = decoded_branch cond annul disp22 range has
decode_of-word_of (i.Call disp30) range has = decoded_call disp30 has
decode_of-word_of (i.Alu op sets rd rs1 op2) range has =
    let parts = and_parts (has_form op sets) (op2_fits op2) has in
    decoded3 decode_of-arithmetic (i.Alu op sets) (alu_op3 op sets) (omega arith, ltb-true _ 64 (alu_op3-small op sets))
    (λ w _. arithmetic-row op sets parts.0 w) range parts.1
decode_of-word_of (i.ReadY rd) range has = decoded_read_y rd range
decode_of-word_of (i.WriteY rs1 op2) range has = decoded_write_y rs1 op2 range has
decode_of-word_of (i.Jmpl rd rs1 op2) range has = decoded3 decode_of-arithmetic i.Jmpl 0x38 (omega arith) (λ w _. refl) range has
decode_of-word_of (i.Ticc cond rs1 op2) range has = decoded_ticc cond rs1 op2 range has
decode_of-word_of (i.Flush rs1 op2) range has = decoded_flush rs1 op2 range has
decode_of-word_of i.Stbar range has = decoded_stbar
decode_of-word_of (i.Save rd rs1 op2) range has = decoded3 decode_of-arithmetic i.Save 0x3c (omega arith) (λ w _. refl) range has
decode_of-word_of (i.Restore rd rs1 op2) range has = decoded3 decode_of-arithmetic i.Restore 0x3d (omega arith) (λ w _. refl) range has
decode_of-word_of (i.Load kind rd rs1 op2) range has =
    let parts = and_parts (has_even_pair (i.Load kind rd rs1 op2)) (op2_fits op2) has in
    decoded3 decode_of-memory (i.Load kind) (load_op3 kind) (omega arith, ltb-true _ 64 (load_op3-small kind))
    (λ w the_rd. load-row kind rd rs1 w op2 the_rd parts.0) range parts.1
decode_of-word_of (i.Store kind rd rs1 op2) range has =
    let parts = and_parts (has_even_pair (i.Store kind rd rs1 op2)) (op2_fits op2) has in
    decoded3 decode_of-memory (i.Store kind) (store_op3 kind) (omega arith, ltb-true _ 64 (store_op3-small kind))
    (λ w the_rd. store-row kind rd rs1 w op2 the_rd parts.0) range parts.1
decode_of-word_of (i.Ldstub rd rs1 op2) range has = decoded3 decode_of-memory i.Ldstub 0x0d (omega arith) (λ w _. refl) range has
decode_of-word_of (i.Swap rd rs1 op2) range has = decoded3 decode_of-memory i.Swap 0x0f (omega arith) (λ w _. refl) range has
decode_of-word_of instr range has = absurd (true≢false (sym has))

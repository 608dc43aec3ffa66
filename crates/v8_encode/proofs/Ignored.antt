-- The word of an instruction has 0 in each bit that its form ignores.
use Rattle.v8_encode.proofs.Common.{◌≡◌, ℕ, ◌-◌, ◌*◌, ◌^◌, true, ◌&&◌, [], ◌∷◌, nat_lt, refl, ap, ◌∙◌, arith, and_parts, nat_tests, Instr, Op2, field, operands_in_range, is_in_range, op2_fits, has_word, ignored_beside, ignored_of, cleared, alu_op3, load_op3, store_op3, format3, word_of}
use Rattle.v8_decode.specs.declared.Instr.TheVariants as i
use Rattle.v8_decode.specs.declared.Op2.TheVariants as o
use Rattle.v8_encode.proofs.Fields.{op2_field-lt}

cleared_operand : (op rd op3 rs1 : ℕ) (op2 : Op2) → operands_in_range rs1 op2 ≡ true → cleared (ignored_beside op2) (format3 op rd op3 rs1 op2) ≡ format3 op rd op3 rs1 op2
cleared_operand op rd op3 rs1 (o.Reg rs2) range =
    let none : field (format3 op rd op3 rs1 (o.Reg rs2)) 5 8 ≡ 0 = grind (arith, nat_tests) in
    omega arith
cleared_operand op rd op3 rs1 (o.Imm simm13) range = refl

cleared_below : (rd rs1 : ℕ) → cleared ((0, 14) ∷ []) (format3 2 rd 0x28 rs1 (o.Reg 0)) ≡ format3 2 rd 0x28 rs1 (o.Reg 0)
cleared_below rd rs1 =
    let none : field (format3 2 rd 0x28 rs1 (o.Reg 0)) 0 14 ≡ 0 = omega arith in
    omega arith

cleared_bit_29 : (cond rs1 : ℕ) (op2 : Op2) → (nat_lt cond 16 && operands_in_range rs1 op2) ≡ true → op2_fits op2 ≡ true
    → cleared ((29, 1) ∷ ignored_beside op2) (format3 2 cond 0x3a rs1 op2) ≡ format3 2 cond 0x3a rs1 op2
cleared_bit_29 cond rs1 op2 range fits =
    let low = op2_field-lt op2 fits in
    let w = format3 2 cond 0x3a rs1 op2 in
    let none : w - field w 29 1 * 2 ^ 29 ≡ w = grind (arith, nat_tests) in
    ap (cleared (ignored_beside op2)) none ∙ cleared_operand 2 cond 0x3a rs1 op2 (and_parts _ _ range).1

cleared_rd : (rs1 : ℕ) (op2 : Op2) → operands_in_range rs1 op2 ≡ true → op2_fits op2 ≡ true
    → cleared ((25, 5) ∷ ignored_beside op2) (format3 2 0 0x3b rs1 op2) ≡ format3 2 0 0x3b rs1 op2
cleared_rd rs1 op2 range fits =
    let low = op2_field-lt op2 fits in
    let w = format3 2 0 0x3b rs1 op2 in
    let none : w - field w 25 5 * 2 ^ 25 ≡ w = grind (arith, nat_tests) in
    ap (cleared (ignored_beside op2)) none ∙ cleared_operand 2 0 0x3b rs1 op2 range

pub cleared-word_of : (instr : Instr) → is_in_range instr ≡ true → has_word instr ≡ true → cleared (ignored_of instr) (word_of instr) ≡ word_of instr
cleared-word_of (i.Alu op sets rd rs1 op2) range has = cleared_operand 2 rd (alu_op3 op sets) rs1 op2 (and_parts _ _ range).1
cleared-word_of (i.ReadY rd) range has = cleared_below rd 0
cleared-word_of (i.WriteY rs1 op2) range has = cleared_operand 2 0 0x30 rs1 op2 range
cleared-word_of (i.Jmpl rd rs1 op2) range has = cleared_operand 2 rd 0x38 rs1 op2 (and_parts _ _ range).1
cleared-word_of (i.Ticc cond rs1 op2) range has = cleared_bit_29 cond rs1 op2 range has
cleared-word_of (i.Flush rs1 op2) range has = cleared_rd rs1 op2 range has
cleared-word_of (i.Save rd rs1 op2) range has = cleared_operand 2 rd 0x3c rs1 op2 (and_parts _ _ range).1
cleared-word_of (i.Restore rd rs1 op2) range has = cleared_operand 2 rd 0x3d rs1 op2 (and_parts _ _ range).1
cleared-word_of (i.Load kind rd rs1 op2) range has = cleared_operand 3 rd (load_op3 kind) rs1 op2 (and_parts _ _ range).1
cleared-word_of (i.Store kind rd rs1 op2) range has = cleared_operand 3 rd (store_op3 kind) rs1 op2 (and_parts _ _ range).1
cleared-word_of (i.Ldstub rd rs1 op2) range has = cleared_operand 3 rd 0x0d rs1 op2 (and_parts _ _ range).1
cleared-word_of (i.Swap rd rs1 op2) range has = cleared_operand 3 rd 0x0f rs1 op2 (and_parts _ _ range).1
cleared-word_of instr range has = refl

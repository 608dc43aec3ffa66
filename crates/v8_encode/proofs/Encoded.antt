-- A word that is an instruction is encoded again, with 0 in the bits that its form ignores.
use Rattle.v8_encode.proofs.Common.{◌≡◌, ℕ, ◌-◌, ◌*◌, ◌%◌, ◌^◌, ◌<◌, Bool, true, false, [], ◌∷◌, Some, None, ◌==◌, refl, sym, ap, ◌∙◌, arith, if◌then◌else◌, and_from, true≢false, eqb-true, lt-ltb, cond_both, nat_tests, Instr, AluOp, LoadKind, StoreKind, has_form, field, signed, rd_of, op3_of, rs1_of, cond_of, op2_of, alu, load, store, op2_rows, arithmetic_rows, memory_rows, branch_or_sethi, arithmetic, memory, call, decode_of, has_even_pair, Each, row_by_row, op2_fits, has_word, encode_of, ignored_beside, ignored_of, cleared, alu_op3, load_op3, store_op3, format3, word_of, annul_bit, is_instruction}
use Rattle.v8_decode.specs.declared.Instr.TheVariants as i
use Rattle.v8_decode.specs.declared.LoadKind.TheVariants as loads
use Rattle.v8_decode.specs.declared.StoreKind.TheVariants as stores
use Rattle.v8_encode.proofs.Fields.{format3-fields, op2_fits-op2_of, op2_of-same, signed_field-signed}

-- what is to be shown of a word and its instruction
unfoldable Refits : ℕ → Instr → Type 0
Refits w instr = is_instruction instr ≡ true → encode_of instr ≡ Some (cleared (ignored_of instr) w)

-- a word that is no instruction
none : (w : ℕ) (instr : Instr) → is_instruction instr ≡ false → Refits w instr
unfolding Refits
none w instr so is = absurd (true≢false (sym is ∙ so))

refitted : (w : ℕ) (instr : Instr) → has_word instr ≡ true → word_of instr ≡ cleared (ignored_of instr) w → Refits w instr
unfolding encode_of Refits
refitted w instr has word _ = ap (λ b. if b then Some (word_of instr) else None) has ∙ ap Some word

-- a word of format 3, put together again
again : (w op op3 : ℕ) → w < 2 ^ 32 → field w 30 2 ≡ op → op3_of w ≡ op3
    → format3 op (rd_of w) op3 (rs1_of w) (op2_of w) ≡ cleared (ignored_beside (op2_of w)) w
again w op op3 below the_op the_op3 = rw (the_op, the_op3) at (format3-fields w below)

refitted_alu : (w : ℕ) (op : AluOp) (sets : Bool) → w < 2 ^ 32 → field w 30 2 ≡ 2 → op3_of w ≡ alu_op3 op sets → has_form op sets ≡ true → Refits w (alu op sets w)
refitted_alu w op sets below the_op the_op3 form =
    refitted w (alu op sets w) (and_from (has_form op sets) (op2_fits (op2_of w)) form (op2_fits-op2_of w)) (again w 2 (alu_op3 op sets) below the_op the_op3)

refitted_load : (w : ℕ) (kind : LoadKind) → w < 2 ^ 32 → field w 30 2 ≡ 3 → op3_of w ≡ load_op3 kind → has_even_pair (load kind w) ≡ true
    → Refits w (load kind w)
refitted_load w kind below the_op the_op3 even =
    refitted w (load kind w) (and_from (has_even_pair (load kind w)) _ even (op2_fits-op2_of w)) (again w 3 (load_op3 kind) below the_op the_op3)

refitted_store : (w : ℕ) (kind : StoreKind) → w < 2 ^ 32 → field w 30 2 ≡ 3 → op3_of w ≡ store_op3 kind → has_even_pair (store kind w) ≡ true
    → Refits w (store kind w)
refitted_store w kind below the_op the_op3 even =
    refitted w (store kind w) (and_from (has_even_pair (store kind w)) _ even (op2_fits-op2_of w)) (again w 3 (store_op3 kind) below the_op the_op3)

-- an instruction of format 3 with rd, rs1 and op2
refitted_three : (w op op3 : ℕ) (instr : Instr) → has_word instr ≡ true → word_of instr ≡ format3 op (rd_of w) op3 (rs1_of w) (op2_of w)
    → ignored_of instr ≡ ignored_beside (op2_of w) → w < 2 ^ 32 → field w 30 2 ≡ op → op3_of w ≡ op3 → Refits w instr
refitted_three w op op3 instr has word ignored below the_op the_op3 =
    refitted w instr has (word ∙ again w op op3 below the_op the_op3 ∙ ap (λ x. cleared x w) (sym ignored))

-- one that a test allows
if_so : (w : ℕ) (b : Bool) (instr : Instr) → (b ≡ true → Refits w instr) → Refits w (if b then instr else i.Illegal)
if_so w b instr fits = cond_both b instr i.Illegal (Refits w) fits (λ _. none w i.Illegal refl)

-- RDY and STBAR ignore all below rs1
refitted_read_state : (w : ℕ) → w < 2 ^ 32 → field w 30 2 ≡ 2 → op3_of w ≡ 0x28
    → Refits w (if rs1_of w == 0 then i.ReadY (rd_of w) else (if rs1_of w == 15 then (if rd_of w == 0 then i.Stbar else i.Illegal) else i.Illegal))
refitted_read_state w below the_op the_op3 = cond_both (rs1_of w == 0) (i.ReadY (rd_of w)) _ (Refits w) (λ e.
    let rs1 = eqb-true (rs1_of w) 0 e in
    refitted w (i.ReadY (rd_of w)) refl (omega arith))
    (λ e. if_so w (rs1_of w == 15) _ (λ f. if_so w (rd_of w == 0) i.Stbar (λ g.
    let rs1 = eqb-true (rs1_of w) 15 f in
    let rd = eqb-true (rd_of w) 0 g in
    refitted w i.Stbar refl (omega arith))))

refitted_write_state : (w : ℕ) → w < 2 ^ 32 → field w 30 2 ≡ 2 → op3_of w ≡ 0x30 → Refits w (if rd_of w == 0 then i.WriteY (rs1_of w) (op2_of w) else i.Illegal)
refitted_write_state w below the_op the_op3 = if_so w (rd_of w == 0) (i.WriteY (rs1_of w) (op2_of w)) (λ e.
    refitted w (i.WriteY (rs1_of w) (op2_of w)) (op2_fits-op2_of w)
    (rw (eqb-true (rd_of w) 0 e) at (again w 2 0x30 below the_op the_op3)))

-- the same of a word v that differs above bit 13 from w
again_at : (v w high op op3 : ℕ) → v < 2 ^ 32 → field v 30 2 ≡ op → rd_of v ≡ high → op3_of v ≡ op3 → rs1_of v ≡ rs1_of w → field v 0 14 ≡ field w 0 14
    → format3 op high op3 (rs1_of w) (op2_of w) ≡ cleared (ignored_beside (op2_of w)) v
again_at v w high op op3 below the_op the_rd the_op3 the_rs1 low =
    rw (the_rd, the_rs1, op2_of-same v w low) at (again v op op3 below the_op the_op3)

-- Ticc ignores bit 29
refitted_ticc : (w : ℕ) → w < 2 ^ 32 → field w 30 2 ≡ 2 → op3_of w ≡ 0x3a → Refits w (i.Ticc (cond_of w) (rs1_of w) (op2_of w))
refitted_ticc w below the_op the_op3 =
    let v = w - field w 29 1 * 2 ^ 29 in
    refitted w (i.Ticc (cond_of w) (rs1_of w) (op2_of w)) (op2_fits-op2_of w) (
    again_at v w (cond_of w) 2 0x3a (omega arith) (omega arith) (omega arith) (omega arith) (omega arith) (omega arith))

-- FLUSH ignores rd
refitted_flush : (w : ℕ) → w < 2 ^ 32 → field w 30 2 ≡ 2 → op3_of w ≡ 0x3b → Refits w (i.Flush (rs1_of w) (op2_of w))
refitted_flush w below the_op the_op3 =
    let v = w - field w 25 5 * 2 ^ 25 in
    refitted w (i.Flush (rs1_of w) (op2_of w)) (op2_fits-op2_of w) (
    again_at v w 0 2 0x3b (omega arith) (omega arith) (omega arith) (omega arith) (omega arith) (omega arith))

refitted_arithmetic : (w : ℕ) → w < 2 ^ 32 → field w 30 2 ≡ 2 → Refits w (arithmetic w)
unfolding arithmetic Each
refitted_arithmetic w below op = row_by_row (Refits w) (op3_of w) w arithmetic_rows (none w i.Illegal refl) (search (
  refitted_alu,
  refitted_read_state,
  refitted_write_state,
  refitted_three w 2 0x38 (i.Jmpl (rd_of w) (rs1_of w) (op2_of w)) (op2_fits-op2_of w) refl refl,
  refitted_three w 2 0x3c (i.Save (rd_of w) (rs1_of w) (op2_of w)) (op2_fits-op2_of w) refl refl,
  refitted_three w 2 0x3d (i.Restore (rd_of w) (rs1_of w) (op2_of w)) (op2_fits-op2_of w) refl refl,
  refitted_ticc,
  refitted_flush,
  none,
))

refitted_memory : (w : ℕ) → w < 2 ^ 32 → field w 30 2 ≡ 3 → Refits w (memory w)
unfolding memory Each
refitted_memory w below op = row_by_row (Refits w) (op3_of w) w memory_rows (none w i.Illegal refl) (search (
  refitted_load,
  refitted_store,
  if_so w (rd_of w % 2 == 0) (load loads.LDD w),
  if_so w (rd_of w % 2 == 0) (store stores.STD w),
  refitted_three w 3 0x0d (i.Ldstub (rd_of w) (rs1_of w) (op2_of w)) (op2_fits-op2_of w) refl refl,
  refitted_three w 3 0x0f (i.Swap (rd_of w) (rs1_of w) (op2_of w)) (op2_fits-op2_of w) refl refl,
  none,
))

annul_bit-field : (w : ℕ) → annul_bit (field w 29 1 == 1) ≡ field w 29 1
annul_bit-field w = grind (arith, nat_tests)

refitted_branch : (w : ℕ) → w < 2 ^ 32 → field w 30 2 ≡ 0 → field w 22 3 ≡ 2 → Refits w (i.Branch (cond_of w) (field w 29 1 == 1) (signed 22 (field w 0 22)))
refitted_branch w below the_op the_op2 =
    let low : field w 0 22 < 2 ^ 22 = omega arith in
    let disp = signed_field-signed 22 (field w 0 22) refl low in
    refitted w (i.Branch (cond_of w) (field w 29 1 == 1) (signed 22 (field w 0 22))) disp.0
    (omega (arith, disp.1, annul_bit-field w))

refitted_sethi : (w : ℕ) → w < 2 ^ 32 → field w 30 2 ≡ 0 → field w 22 3 ≡ 4 → Refits w (i.Sethi (rd_of w) (field w 0 22))
refitted_sethi w below the_op the_op2 = refitted w (i.Sethi (rd_of w) (field w 0 22)) (lt-ltb _ _ (omega arith)) (omega arith)

refitted_format2 : (w : ℕ) → w < 2 ^ 32 → field w 30 2 ≡ 0 → Refits w (branch_or_sethi w)
unfolding branch_or_sethi Each
refitted_format2 w below op =
    row_by_row (Refits w) (field w 22 3) w op2_rows (none w i.Illegal refl) (search (refitted_branch, refitted_sethi, none))

refitted_call : (w : ℕ) → w < 2 ^ 32 → field w 30 2 ≡ 1 → Refits w (call w)
refitted_call w below the_op =
    let low : field w 0 30 < 2 ^ 30 = omega arith in
    let disp = signed_field-signed 30 (field w 0 30) refl low in
    refitted w (call w) disp.0 (omega (arith, disp.1))

pub encode_of-decode_of : (w : ℕ) → w < 2 ^ 32 → is_instruction (decode_of w) ≡ true → encode_of (decode_of w) ≡ Some (cleared (ignored_of (decode_of w)) w)
unfolding decode_of Each Refits
encode_of-decode_of w below =
    row_by_row (Refits w) (field w 30 2) w ((0, branch_or_sethi) ∷ (1, call) ∷ (2, arithmetic) ∷ (3, memory) ∷ []) (none w i.Illegal refl)
    (refitted_format2 w below, (refitted_call w below, (refitted_arithmetic w below, (refitted_memory w below, tt))))

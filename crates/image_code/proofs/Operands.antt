-- The second operand of a JMPL or of a load that a word is has a word.
use Rattle.image_code.proofs.Common.{◌≡◌, ℕ, ◌%◌, Bool, true, ◌==◌, [], ◌∷◌, refl, arith, cond_both, Instr, decode_of, op2_fits, branch_or_sethi, field, rd_of, op3_of, op2_rows, arithmetic_rows, memory_rows, arithmetic, memory, call, load, store, read_state, write_state, even_rd}
use Rattle.v8_decode.specs.declared.Instr.TheVariants as i
use Rattle.v8_decode.specs.declared.LoadKind.TheVariants as loads
use Rattle.v8_decode.specs.declared.StoreKind.TheVariants as stores
use Rattle.v8_decode.proofs.Rows.{Each, row_by_row}
use Rattle.v8_encode.proofs.Fields.{op2_fits-op2_of}

abbrev second_fits : Instr → Bool
second_fits (i.Jmpl rd rs1 op2) = op2_fits op2
second_fits (i.Load kind rd rs1 op2) = op2_fits op2
second_fits _ = true

abbrev pub Fits : Instr → Type 0
Fits instr = second_fits instr ≡ true

read_state_fits : (w : ℕ) → Fits (read_state w)
read_state_fits w = grind arith

write_state_fits : (w : ℕ) → Fits (write_state w)
write_state_fits w = grind arith

even_fits : (of : ℕ → Instr) (w : ℕ) → Fits (of w) → Fits (even_rd of w)
even_fits of w h = cond_both (rd_of w % 2 == 0) (of w) i.Illegal Fits (λ _. h) (λ _. refl)

decoded_fits : (w : ℕ) → Fits (decode_of w)
unfolding decode_of branch_or_sethi arithmetic memory Each
decoded_fits w =
    let arithmetic_row = row_by_row Fits (op3_of w) w arithmetic_rows refl
    (search (read_state_fits, write_state_fits, op2_fits-op2_of)) in
    let memory_row = row_by_row Fits (op3_of w) w memory_rows refl
    (search (even_fits (load loads.LDD) w (op2_fits-op2_of w), even_fits (store stores.STD) w refl, op2_fits-op2_of)) in
    row_by_row Fits (field w 30 2) w ((0, branch_or_sethi) ∷ (1, call) ∷ (2, arithmetic) ∷ (3, memory) ∷ []) refl (
      (λ _. row_by_row Fits (field w 22 3) w op2_rows refl (search tt)),
      ((λ _. refl), ((λ _. arithmetic_row), ((λ _. memory_row), tt))),
    )

pub operand_fits : (w : ℕ) (instr : Instr) → decode_of w ≡ instr → Fits instr
operand_fits w instr says = rw (← says) (decoded_fits w)

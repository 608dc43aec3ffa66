-- What a word decodes to has one of the forms of its operation.
use Rattle.std.proofs.Common.{◌≡◌, ℕ, ◌%◌, Bool, true, false, [], ◌∷◌, ◌==◌, refl}
use Rattle.std.specs.Prelude.{if◌then◌else◌}
use Rattle.std.proofs.lemmas.Bool.{cond_both}
use Rattle.v8_decode.specs.declared.Instr.{Instr}
use Rattle.v8_decode.specs.declared.Instr.TheVariants as i
use Rattle.v8_decode.specs.Words.{field, rd_of, op3_of, rs1_of, op2_of, op2_rows, arithmetic_rows, memory_rows, branch_or_sethi, arithmetic, memory, call, load, store, read_state, write_state, even_rd, decode_of}
use Rattle.v8_decode.specs.declared.LoadKind.TheVariants as loads
use Rattle.v8_decode.specs.declared.StoreKind.TheVariants as stores
use Rattle.v8_decode.proofs.Rows.{Each, row_by_row}
use Rattle.v8_alu.specs.Code.{alu_has_form}

abbrev pub HasForm : Instr → Type 0
HasForm instr = alu_has_form instr ≡ true

read_state_form : (w : ℕ) → HasForm (read_state w)
read_state_form w = go (rs1_of w == 0) (rs1_of w == 15) (rd_of w == 0)
  where
    go : (a b c : Bool) → HasForm (if a then i.ReadY (rd_of w) else (if b then (if c then i.Stbar else i.Illegal) else i.Illegal))
    go false true true = refl
    go a b c = refl

write_state_form : (w : ℕ) → HasForm (write_state w)
write_state_form w = go (rd_of w == 0)
  where
    go : (b : Bool) → HasForm (if b then i.WriteY (rs1_of w) (op2_of w) else i.Illegal)
    go true = refl
    go false = refl

even_form : (of : ℕ → Instr) (w : ℕ) → HasForm (of w) → HasForm (even_rd of w)
even_form of w h = cond_both (rd_of w % 2 == 0) (of w) i.Illegal HasForm (λ _. h) (λ _. refl)

arithmetic_form : (w : ℕ) → HasForm (arithmetic w)
unfolding arithmetic Each
arithmetic_form w = row_by_row HasForm (op3_of w) w arithmetic_rows refl (search (read_state_form, write_state_form))

memory_form : (w : ℕ) → HasForm (memory w)
unfolding memory Each
memory_form w = row_by_row HasForm (op3_of w) w memory_rows refl (search (even_form (load loads.LDD) w refl, even_form (store stores.STD) w refl))

format2_form : (w : ℕ) → HasForm (branch_or_sethi w)
unfolding branch_or_sethi Each
format2_form w = row_by_row HasForm (field w 22 3) w op2_rows refl ((λ _. refl), ((λ _. refl), ((λ _. refl), ((λ _. refl), tt))))

pub decode_of-form : (w : ℕ) → HasForm (decode_of w)
unfolding decode_of Each
decode_of-form w =
    row_by_row HasForm (field w 30 2) w ((0, branch_or_sethi) ∷ (1, call) ∷ (2, arithmetic) ∷ (3, memory) ∷ []) refl
    ((λ _. format2_form w), ((λ _. refl), ((λ _. arithmetic_form w), ((λ _. memory_form w), tt))))

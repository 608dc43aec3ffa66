-- The tables of opcodes, looked up, and what holds of whatever a word decodes to.
use Rattle.v8_decode.proofs.Common.{◌≡◌, ℕ, ◌+◌, ◌*◌, ◌%◌, true, ◌&&◌, List, [], ◌∷◌, nat_lt, ◌==◌, refl, ap, ◌∙◌, arith, and_from, cond_both, eqb-true, lt-ltb}
use Rattle.v8_decode.specs.declared.Instr.{Instr}
use Rattle.v8_decode.specs.declared.Instr.TheVariants as i
use Rattle.v8_decode.specs.declared.LoadKind.TheVariants as loads
use Rattle.v8_decode.specs.declared.StoreKind.TheVariants as stores
use Rattle.v8_decode.specs.Words.{field, rd_of, op3_of, rs1_of, cond_of, op2_of, Row, row_of, load, store, even_rd, read_state, write_state, op2_rows, arithmetic_rows, memory_rows, branch_or_sethi, arithmetic, memory, call, decode_of}
use Rattle.v8_decode.specs.Ranges.{has_even_pair, op2_in_range, operands_in_range, is_in_range}

-- the tables at a word whose op, and op3 or op2, are known
abbrev formats : List (ℕ × Row)
formats = (0, branch_or_sethi) ∷ (1, call) ∷ (2, arithmetic) ∷ (3, memory) ∷ []

-- op is bits 31 and 30
pub decode_of-bits : (w high low : ℕ) → field w 31 1 ≡ high → field w 30 1 ≡ low → decode_of w ≡ row_of formats (2 * high + low) w
unfolding decode_of
decode_of-bits w high low h l = let op : field w 30 2 ≡ 2 * high + low = omega arith in ap (λ n. row_of formats n w) op

pub decode_of-call : (w : ℕ) → field w 30 2 ≡ 1 → decode_of w ≡ call w
unfolding decode_of
decode_of-call w op = ap (λ n. row_of formats n w) op

pub decode_of-format2 : (w n : ℕ) → field w 30 2 ≡ 0 → field w 22 3 ≡ n → decode_of w ≡ row_of op2_rows n w
unfolding decode_of branch_or_sethi
decode_of-format2 w n op op2 = ap (λ n. row_of formats n w) op ∙ ap (λ n. row_of op2_rows n w) op2

pub decode_of-arithmetic : (w n : ℕ) → field w 30 2 ≡ 2 → op3_of w ≡ n → decode_of w ≡ row_of arithmetic_rows n w
unfolding decode_of arithmetic
decode_of-arithmetic w n op op3 = ap (λ n. row_of formats n w) op ∙ ap (λ n. row_of arithmetic_rows n w) op3

pub decode_of-memory : (w n : ℕ) → field w 30 2 ≡ 3 → op3_of w ≡ n → decode_of w ≡ row_of memory_rows n w
unfolding decode_of memory
decode_of-memory w n op op3 = ap (λ n. row_of formats n w) op ∙ ap (λ n. row_of memory_rows n w) op3

-- what holds of each row of a table holds of the row that is looked up, and of an illegal instruction
unfoldable pub Each : (Instr → Type 0) → ℕ → ℕ → List (ℕ × Row) → Type 0
Each P n w [] = Unit {0}
Each P n w (r ∷ rows) = (n ≡ r.0 → P (r.1 w)) × Each P n w rows

pub row_by_row : (P : Instr → Type 0) (n w : ℕ) (rows : List (ℕ × Row)) → P i.Illegal → Each P n w rows → P (row_of rows n w)
unfolding Each
row_by_row P n w [] illegal each = illegal
row_by_row P n w (r ∷ rows) illegal each =
    cond_both (n == r.0) _ _ P (λ e. each.0 (eqb-true n r.0 e)) (λ _. row_by_row P n w rows illegal each.1)

-- ---- ranges

rd_below : (w : ℕ) → nat_lt (rd_of w) 32 ≡ true
rd_below w = lt-ltb _ _ (omega arith)

op2_below : (w : ℕ) → op2_in_range (op2_of w) ≡ true
op2_below w = cond_both (field w 13 1 == 0) _ _ (λ o. op2_in_range o ≡ true) (λ _. lt-ltb _ _ (omega arith)) (λ _. refl)

operands : (w : ℕ) → operands_in_range (rs1_of w) (op2_of w) ≡ true
operands w = and_from (nat_lt (rs1_of w) 32) (op2_in_range (op2_of w)) (lt-ltb _ _ (omega arith)) (op2_below w)

fields : (w : ℕ) → (nat_lt (rd_of w) 32 && operands_in_range (rs1_of w) (op2_of w)) ≡ true
fields w = and_from (nat_lt (rd_of w) 32) (operands_in_range (rs1_of w) (op2_of w)) (rd_below w) (operands w)

cond_and_operands : (w : ℕ) → (nat_lt (cond_of w) 16 && operands_in_range (rs1_of w) (op2_of w)) ≡ true
cond_and_operands w = and_from (nat_lt (cond_of w) 16) (operands_in_range (rs1_of w) (op2_of w)) (lt-ltb _ _ (omega arith)) (operands w)

-- registers and conditions have such numbers, and a doubleword's rd is even
abbrev pub InRanges : Instr → Type 0
InRanges instr = (is_in_range instr ≡ true) × (has_even_pair instr ≡ true)

read_state_ranges : (w : ℕ) → InRanges (read_state w)
read_state_ranges w =
    cond_both (rs1_of w == 0) _ _ InRanges (λ _. (rd_below w, refl)) (λ _.
    cond_both (rs1_of w == 15) _ _ InRanges
    (λ _. cond_both (rd_of w == 0) _ _ InRanges (λ _. (refl, refl)) (λ _. (refl, refl)))
    (λ _. (refl, refl)))

write_state_ranges : (w : ℕ) → InRanges (write_state w)
write_state_ranges w = cond_both (rd_of w == 0) _ _ InRanges (λ _. (operands w, refl)) (λ _. (refl, refl))

even_load : (w : ℕ) → InRanges (even_rd (load loads.LDD) w)
even_load w = cond_both (rd_of w % 2 == 0) _ _ InRanges (λ e. (fields w, e)) (λ _. (refl, refl))

even_store : (w : ℕ) → InRanges (even_rd (store stores.STD) w)
even_store w = cond_both (rd_of w % 2 == 0) _ _ InRanges (λ e. (fields w, e)) (λ _. (refl, refl))

arithmetic_ranges : (w : ℕ) → InRanges (arithmetic w)
unfolding arithmetic Each
arithmetic_ranges w =
    row_by_row InRanges (op3_of w) w arithmetic_rows (refl, refl)
    (search (fields, read_state_ranges, write_state_ranges, cond_and_operands, operands))

memory_ranges : (w : ℕ) → InRanges (memory w)
unfolding memory Each
memory_ranges w = row_by_row InRanges (op3_of w) w memory_rows (refl, refl) (search (fields, even_load, even_store))

format2_ranges : (w : ℕ) → InRanges (branch_or_sethi w)
unfolding branch_or_sethi Each
format2_ranges w =
    row_by_row InRanges (field w 22 3) w op2_rows (refl, refl) ((λ _. (lt-ltb _ _ (omega arith), refl)), search rd_below)

pub decode_of-ranges : (w : ℕ) → InRanges (decode_of w)
unfolding decode_of Each
decode_of-ranges w =
    row_by_row InRanges (field w 30 2) w formats (refl, refl)
    ((λ _. format2_ranges w), ((λ _. (refl, refl)), ((λ _. arithmetic_ranges w), ((λ _. memory_ranges w), tt))))

-- the same of a result that is known to be decoded
pub decoded_range : (r : Instr) (w : ℕ) → r ≡ decode_of w → is_in_range r ≡ true
decoded_range r w e = ap is_in_range e ∙ (decode_of-ranges w).0

pub decoded_pair : (r : Instr) (w : ℕ) → r ≡ decode_of w → has_even_pair r ≡ true
decoded_pair r w e = ap has_even_pair e ∙ (decode_of-ranges w).1

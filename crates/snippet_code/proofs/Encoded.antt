-- The words of a snippet decode to its instructions.
use Rattle.snippet_code.proofs.Common.{◌≡◌, ℕ, suc, ◌+◌, ◌-◌, ◌^◌, ◌<◌, ◌≤◌, Bool, true, false, ◌==◌, List, [], ◌∷◌, ◌++◌, length, map, refl, arith, All, cond_both, if◌then◌else◌, nat_lt, slice_index, pos, negsuc, nat_tests, All-head, All-tail, decode_of, AluOp, Instr, word_of, Op, Add, Put, Keep, Top, Count, Log, IsOp, cells_end, cell_at, high, low, load_low, store_low, load_next, store_next, add_one, of_two, with_number, add_low, compare, small, add_words, put_words, top_words, count_words, log_words, op_words, all_words, numbered, save, restore, is_small, op_registers, registers_for, EndsLow, EndLow}
use Rattle.v8_decode.specs.Ranges.{is_in_range}
use Rattle.v8_decode.specs.declared.AluOp.TheVariants as ops
use Rattle.v8_decode.specs.Forms.{has_form}
use Rattle.v8_encode.specs.Code.{has_word, fits_signed}
use Rattle.v8_encode.proofs.Decoded.{decode_of-word_of}
use Rattle.snippet_code.proofs.Micro.{◌&◌}

-- an instruction that a word has
abbrev pub HasWord : Instr → Type 0
HasWord x = (is_in_range x ≡ true) × (has_word x ≡ true)

abbrev pub HaveWords : List Instr → Type 0
HaveWords [] = Unit {0}
HaveWords (x ∷ xs) = HasWord x × HaveWords xs

pub decoded : (xs : List Instr) → HaveWords xs → map decode_of (map word_of xs) ≡ xs
decoded [] h = refl
decoded (x ∷ xs) h = cc (decode_of-word_of x h.0.0 h.0.1, decoded xs h.1)

pub have-append : (xs ys : List Instr) → HaveWords xs → HaveWords ys → HaveWords (xs ++ ys)
have-append [] ys h k = k
have-append (x ∷ xs) ys h k = (h.0, have-append xs ys h.1 k)

-- ---- single instructions
high_has : (n rd : ℕ) → n < 2 ^ 32 → rd < 32 → HasWord (high n rd)
high_has n rd h k = (grind (arith, nat_tests), grind (arith, nat_tests))

load_has : (a base rd : ℕ) → base < 32 → rd < 32 → HasWord (load_low a base rd)
load_has a base rd h k = (grind (arith, nat_tests), grind (arith, nat_tests))

store_has : (a base rd : ℕ) → base < 32 → rd < 32 → HasWord (store_low a base rd)
store_has a base rd h k = (grind (arith, nat_tests), grind (arith, nat_tests))

load_next_has : (a base rd : ℕ) → base < 32 → rd < 32 → HasWord (load_next a base rd)
load_next_has a base rd h k = (grind (arith, nat_tests), grind (arith, nat_tests))

store_next_has : (a base rd : ℕ) → base < 32 → rd < 32 → HasWord (store_next a base rd)
store_next_has a base rd h k = (grind (arith, nat_tests), grind (arith, nat_tests))

number_has : (op : AluOp) (n rs1 rd : ℕ) → has_form op false ≡ true → n < 4096 → rs1 < 32 → rd < 32
    → HasWord (with_number op rs1 (pos n) rd)
number_has op n rs1 rd f l h k = (grind (arith, nat_tests), grind (arith, nat_tests))

add_one_has : (rd : ℕ) → rd < 32 → HasWord (add_one rd)
add_one_has rd h = (grind (arith, nat_tests), grind (arith, nat_tests))

two_has : (op : AluOp) (rs1 rs2 rd : ℕ) → has_form op false ≡ true → rs1 < 32 → rs2 < 32 → rd < 32
    → HasWord (of_two op rs1 rs2 rd)
two_has op rs1 rs2 rd f h k l = (grind (arith, nat_tests), grind (arith, nat_tests))

add_low_has : (n rd : ℕ) → rd < 32 → HasWord (add_low n rd)
add_low_has n rd h = (grind (arith, nat_tests), grind (arith, nat_tests))

compare_has : (rs1 rs2 : ℕ) → rs1 < 32 → rs2 < 32 → HasWord (compare rs1 rs2)
compare_has rs1 rs2 h k = (grind (arith, nat_tests), grind (arith, nat_tests))

small_fits : (amount : ℕ) → is_small amount ≡ true → amount < 2 ^ 32 → fits_signed 13 (small amount) ≡ true
small_fits amount h l =
    cond_both (nat_lt amount 4096) (pos amount) (negsuc (2 ^ 32 - 1 - amount)) (λ z. fits_signed 13 z ≡ true) (λ e. e)
    (λ e. grind (arith, nat_tests))

amount_has : (amount rs1 rd : ℕ) → is_small amount ≡ true → amount < 2 ^ 32 → rs1 < 32 → rd < 32
    → HasWord (with_number ops.ADD rs1 (small amount) rd)
amount_has amount rs1 rd h l j k = (grind (arith, nat_tests), small_fits amount h l)

save_has : (n reg : ℕ) → n < 5 → reg < 32 → HasWord (save n reg)
save_has n reg h k = (grind (arith, nat_tests), grind (arith, nat_tests))

restore_has : (n reg : ℕ) → n < 5 → reg < 32 → HasWord (restore n reg)
restore_has n reg h k = (grind (arith, nat_tests), grind (arith, nat_tests))

-- ---- operations, which work in registers below 32
module _ (r : ℕ → ℕ) (want : ℕ) (below : (k : ℕ) → k < want → r k < 32) where
  add_have : (a amount : ℕ) (b : Bool) → is_small amount ≡ b → a < 2 ^ 32 → amount < 2 ^ 32
      → (if b then 2 else 3) ≤ want → HaveWords (add_words a r amount)
  add_have a amount true e h l room =
      let r0 = below 0 (omega arith) in
      let r1 = below 1 (omega arith) in
      rw e (high_has a (r 0) h r0 & load_has a (r 0) (r 1) r0 r1 & amount_has amount (r 1) (r 1) e l r1 r1
      & store_has a (r 0) (r 1) r0 r1 & tt)
  add_have a amount false e h l room =
      let r0 = below 0 (omega arith) in
      let r1 = below 1 (omega arith) in
      let r2 = below 2 (omega arith) in
      rw e (high_has a (r 0) h r0 & load_has a (r 0) (r 1) r0 r1 & high_has amount (r 2) l r2
      & add_low_has amount (r 2) r2 & two_has ops.ADD (r 1) (r 2) (r 1) refl r1 r2 r1
      & store_has a (r 0) (r 1) r0 r1 & tt)

  put_have : (a value : ℕ) (b : Bool) → (value == 0) ≡ b → a < 2 ^ 32 → value < 2 ^ 32
      → (if b then 1 else 2) ≤ want → HaveWords (put_words a r value)
  put_have a value true e h l room =
      let r0 = below 0 (omega arith) in
      rw e (high_has a (r 0) h r0 & store_has a (r 0) 0 r0 (omega arith) & tt)
  put_have a value false e h l room =
      let r0 = below 0 (omega arith) in
      let r1 = below 1 (omega arith) in
      rw e (high_has a (r 0) h r0 & high_has value (r 1) l r1 & add_low_has value (r 1) r1
      & store_has a (r 0) (r 1) r0 r1 & tt)

  top_have : (a reg : ℕ) (d : Bool) → a < 2 ^ 32 → reg < 32 → (if d then 2 else 5) ≤ want
      → HaveWords (top_words a d r reg)
  top_have a reg true h l room =
      let r0 = below 0 (omega arith) in
      let r1 = below 1 (omega arith) in
      high_has a (r 0) h r0 & load_has a (r 0) (r 1) r0 r1 & compare_has reg (r 1) l r1 & (refl, refl)
      & store_has a (r 0) reg r0 l & tt
  top_have a reg false h l room =
      let r0 = below 0 (omega arith) in
      let r1 = below 1 (omega arith) in
      let r2 = below 2 (omega arith) in
      let r3 = below 3 (omega arith) in
      let r4 = below 4 (omega arith) in
      high_has a (r 0) h r0 & load_has a (r 0) (r 1) r0 r1 & two_has ops.SUB (r 1) reg (r 2) refl r1 l r2
      & two_has ops.ORN reg (r 1) (r 3) refl l r1 r3 & two_has ops.AND (r 3) (r 2) (r 3) refl r3 r2 r3
      & two_has ops.ANDN reg (r 1) (r 4) refl l r1 r4 & two_has ops.OR (r 3) (r 4) (r 3) refl r3 r4 r3
      & number_has ops.SRA 31 (r 3) (r 3) refl (omega arith) r3 r3 & two_has ops.AND (r 3) (r 2) (r 3) refl r3 r2 r3
      & two_has ops.SUB (r 1) (r 3) (r 1) refl r1 r3 r1 & store_has a (r 0) (r 1) r0 r1 & tt

  count_have : (a : ℕ) (d : Bool) → a < 2 ^ 32 → (if d then 2 else 3) ≤ want → HaveWords (count_words a d r)
  count_have a true h room =
      let r0 = below 0 (omega arith) in
      let r1 = below 1 (omega arith) in
      high_has a (r 0) h r0 & load_next_has a (r 0) (r 1) r0 r1 & add_one_has (r 1) r1
      & store_next_has a (r 0) (r 1) r0 r1 & load_has a (r 0) (r 1) r0 r1
      & number_has ops.ADDX 0 (r 1) (r 1) refl (omega arith) r1 r1 & store_has a (r 0) (r 1) r0 r1 & tt
  count_have a false h room =
      let r0 = below 0 (omega arith) in
      let r1 = below 1 (omega arith) in
      let r2 = below 2 (omega arith) in
      high_has a (r 0) h r0 & load_next_has a (r 0) (r 1) r0 r1
      & number_has ops.ADD 1 (r 1) (r 2) refl (omega arith) r1 r2 & store_next_has a (r 0) (r 2) r0 r2
      & two_has ops.ANDN (r 1) (r 2) (r 1) refl r1 r2 r1 & number_has ops.SRL 31 (r 1) (r 1) refl (omega arith) r1 r1
      & load_has a (r 0) (r 2) r0 r2 & two_has ops.ADD (r 2) (r 1) (r 2) refl r2 r1 r2
      & store_has a (r 0) (r 2) r0 r2 & tt

  log_have : (a bits value : ℕ) → a < 2 ^ 32 → value < 2 ^ 32 → 3 ≤ want → HaveWords (log_words a r bits value)
  log_have a bits value h l room =
      let r0 = below 0 (omega arith) in
      let r1 = below 1 (omega arith) in
      let r2 = below 2 (omega arith) in
      high_has a (r 0) h r0 & load_has a (r 0) (r 1) r0 r1
      & number_has ops.SLL (32 - bits) (r 1) (r 2) refl (omega arith) r1 r2
      & number_has ops.SRL (30 - bits) (r 2) (r 2) refl (omega arith) r2 r2
      & two_has ops.ADD (r 0) (r 2) (r 2) refl r0 r2 r2 & number_has ops.ADD 1 (r 1) (r 1) refl (omega arith) r1 r1
      & store_has a (r 0) (r 1) r0 r1 & high_has value (r 1) l r1 & add_low_has value (r 1) r1
      & store_next_has a (r 2) (r 1) r2 r1 & tt

  op_have : (base : ℕ) (d : Bool) (op : Op) → IsOp op → cell_at base (cells_end op) ≤ 2 ^ 31
      → op_registers d op ≤ want → HaveWords (op_words base d r op)
  op_have base d (Add cell amount) is h room =
      add_have (cell_at base cell) amount (is_small amount) refl (omega arith) is.1 room
  op_have base d (Put cell value) is h room =
      put_have (cell_at base cell) value (value == 0) refl (omega arith) is.1 room
  op_have base d (Keep cell reg) is h room =
      let r0 = below 0 (omega arith) in
      high_has (cell_at base cell) (r 0) (omega arith) r0 & store_has (cell_at base cell) (r 0) reg r0 is.1 & tt
  op_have base d (Top cell reg) is h room = top_have (cell_at base cell) reg d (omega arith) is.1 room
  op_have base d (Count cell) is h room = count_have (cell_at base cell) d (omega arith) room
  op_have base d (Log cell bits value) is h room = log_have (cell_at base cell) bits value (omega arith) is.2 room

  pub all_have : (base : ℕ) (d : Bool) (os : List Op) → All IsOp os → EndLow base os → registers_for d os ≤ want
      → HaveWords (all_words base d r os)
  all_have base d [] are low room = tt
  all_have base d (op ∷ rest) are low room =
      have-append (op_words base d r op) (all_words base d r rest)
      (op_have base d op (All-head IsOp op rest are) (All-head (EndsLow base) op rest low).end (omega arith))
      (all_have base d rest (All-tail IsOp op rest are) (All-tail (EndsLow base) op rest low) (omega arith))

-- ---- what is saved and restored
abbrev pub AreBelow : List ℕ → Type 0
AreBelow [] = Unit {0}
AreBelow (q ∷ qs) = (q < 32) × AreBelow qs

pub are_below : (qs : List ℕ) → ((k : ℕ) → k < length qs → slice_index qs k < 32) → AreBelow qs
are_below [] h = tt
are_below (q ∷ qs) h = (h 0 (omega arith), are_below qs (λ k b. h (suc k) (omega arith)))

pub numbered_have : (f : ℕ → ℕ → Instr) → ((n reg : ℕ) → n < 5 → reg < 32 → HasWord (f n reg)) → (n : ℕ) (qs : List ℕ)
    → AreBelow qs → n + length qs ≤ 5 → HaveWords (numbered f n qs)
numbered_have f has n [] h few = tt
numbered_have f has n (q ∷ qs) h few = (has n q (omega arith) h.0, numbered_have f has (suc n) qs h.1 (omega arith))

pub saves_have : (qs : List ℕ) → AreBelow qs → length qs ≤ 5 → HaveWords (numbered save 0 qs)
saves_have qs h few = numbered_have save save_has 0 qs h (omega arith)

pub restores_have : (qs : List ℕ) → AreBelow qs → length qs ≤ 5 → HaveWords (numbered restore 0 qs)
restores_have qs h few = numbered_have restore restore_has 0 qs h (omega arith)

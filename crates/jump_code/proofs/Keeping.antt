-- The words before the load of a switch, one by one.
use Rattle.jump_code.proofs.Common.{length, ◌≡◌, ℕ, ◌+◌, ◌<◌, ◌≤◌, Bool, false, Some, refl, ap, arith, Op2, Reg, Imm, wrapped, Memory, State, register_of, operand_of, sum_of, register_of-range, wrapped_range, of_page, store_word, CanStore, count_stores, IsFirstWord, page_word, Is, IsAlike, WorksInTwo, pair, works_same, HasTwo, IsNext, alu, both, first, goes_on, in_two, none_in_two, st_in, two_registers, word, nth, word_stored, still_stored, if◌then◌else◌, any_of_word, word_span, one_if, stores_in_step, read_is, stores_next, second_register, save_load_address, kept_memory, IsAboutToSave, SavesLoadAddress, AddressesAreSaved}
use Rattle.v8_decode.specs.declared.AluOp.TheVariants as ops
use Rattle.v8_step.specs.Run.{run}
use Rattle.jump_code.proofs.Blocks.{gives_sum}
use Rattle.jump_code.proofs.Swaps.{swap}

module _ (rs1 : ℕ) (op2 : Op2) (s : State) (h : IsAboutToSave rs1 op2 s) where
  abbrev g1 : ℕ
  g1 = register_of s 1

  abbrev g2 : ℕ
  g2 = register_of s 2

  abbrev waits : Memory
  waits = store_word s.memory (page_word 0) g1

  p0 : CanStore s.memory (page_word 0)
  p0 = h.page 0 (omega arith)

  block : HasTwo s 3 1 2
  block = two_registers s 3 1 2 h.valid h.ready h.low (omega arith) (omega arith) (omega arith) (omega arith) (omega arith)

  at : (n : ℕ) → n < 3 → IsNext s 3 n (nth (save_load_address rs1 op2) n)
  at = word s 3 (save_load_address rs1 op2) h.words (omega arith)

  begun : WorksInTwo s 3 IsFirstWord 1 2 0 s.memory g1 g2
  begun = none_in_two block

  one : WorksInTwo s 3 IsFirstWord 1 2 1 waits g1 g2
  one =
      goes_on block begun (at 0 (omega arith))
      (st_in block 1 0 (of_page 0) (page_word 0) g1 (λ u k. refl) refl p0 (λ u k. first k) refl)

  -- as long as no register has changed
  module _ (u : State) (k : IsAlike s (pair 1 2) 2 (Is waits) s.codes (pair g1 g2) u) where
    reads : (r : ℕ) → r < 32 → register_of u r ≡ register_of s r
    reads r low = read_is block u r k low (both _ (λ _. refl) (λ _. refl))

    sums : (o : Op2) → second_register o < 32 → sum_of u rs1 o ≡ sum_of s rs1 o
    sums (Reg r) low = rw (reads rs1 h.rs1_below, reads r low)
    sums (Imm n) low = ap (λ z. wrapped (z + operand_of s (Imm n))) (reads rs1 h.rs1_below)

  two : WorksInTwo s 3 IsFirstWord 1 2 2 waits (sum_of s rs1 op2) g2
  two =
      in_two (goes_on block one (at 1 (omega arith))
      (alu block 0 ops.ADD rs1 op2 (sum_of s rs1 op2) (omega arith)
      (λ u k. gives_sum u rs1 op2 (sum_of s rs1 op2) (sums u k op2 h.op2_below)))) refl refl

  can : CanStore waits (page_word 0)
  can = still_stored s.memory (page_word 0) (page_word 0) g1 p0

  three : WorksInTwo s 3 IsFirstWord 1 2 3 (kept_memory s rs1 op2) g1 g2
  three =
      in_two (goes_on block two (at 2 (omega arith))
      (swap block 0 0 (of_page 0) (page_word 0) g1 (omega arith) (λ u k. refl) refl can
      (word_stored s.memory (page_word 0) g1 (register_of-range s 1 h.valid) p0) refl)) refl refl

  alone : (counted : ℕ → Bool) → any_of_word counted (page_word 0) ≡ false → count_stores counted s 3 ≡ 0
  alone counted free =
      let none : one_if counted (Some (word_span (page_word 0))) ≡ 0 = ap (λ (b : Bool). if b then 1 else 0) free in
      let first : stores_in_step counted s ≤ one_if counted (Some (word_span (page_word 0))) =
      stores_next block counted _ begun (at 0 (omega arith)).1 in
      let second : stores_in_step counted (run s 1) ≤ 0 = stores_next block counted _ one (at 1 (omega arith)).1 in
      let third : stores_in_step counted (run s 2) ≤ one_if counted (Some (word_span (page_word 0))) =
      stores_next block counted _ two (at 2 (omega arith)).1 in
      omega (arith, none, first, second, third)

  keeps : SavesLoadAddress rs1 op2 s (length (save_load_address rs1 op2))
  keeps = record {
    path = rw (works_same block three (both _ refl refl) (omega arith)) at three.path;
    silent = three.silent;
    stores = rw three.alike.memory at three.stores;
    kept = word_stored waits (page_word 0) (sum_of s rs1 op2)
        (wrapped_range (register_of s rs1 + operand_of s op2)) can;
    elsewhere = alone;
  }

pub addresses_are_saved : AddressesAreSaved
addresses_are_saved = keeps

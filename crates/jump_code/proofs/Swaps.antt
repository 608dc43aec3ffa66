-- A register and a word change places.
use Rattle.jump_code.proofs.Common.{◌≡◌, ℕ, ◌%◌, ◌<◌, true, refl, ap, sym, ◌∙◌, ◌==◌, Op2, Codes, Memory, code_of, State, register_of, with_register, sum_of, next, act, memory_word, store_word, CanStore, Is, IsAlike, can_load, Acts, HasBlock, held_put, put, word_bytes, word_written, code-store_word, stores_one}
use Rattle.v8_decode.specs.declared.Instr.TheVariants as i
use Rattle.v8_step.specs.Accesses.{swap_step}

pub swap_acts : (s : State) (rd rs1 : ℕ) (x : Op2) (a : ℕ) → sum_of s rs1 x ≡ a → (a % 4 == 0) ≡ true
    → CanStore s.memory a → act s (i.Swap rd rs1 x) ≡ next
    (with_register (record s { memory = store_word s.memory a (register_of s rd) }) rd (memory_word s.memory a))
unfolding act swap_step
swap_acts s rd rs1 x a e z h =
    let b = word_bytes s.memory a (can_load s.memory a h) in
    rw (e, z, b.1, word_written s.memory a (register_of s rd) h, b.2)

-- what it does to a picked register
pub swap : {s : State} {count : ℕ} {r : ℕ → ℕ} {want : ℕ} (c : HasBlock s count r want) {May : ℕ → Type 0} {m : Memory}
    {codes : Codes} {f : ℕ → ℕ} (j rs1 : ℕ) (op2 : Op2) (a v : ℕ) → j < want
    → ((u : State) → IsAlike s r want (Is m) codes f u → sum_of u rs1 op2 ≡ a) → (a % 4 == 0) ≡ true → CanStore m a
    → memory_word m a ≡ v → May a → Acts May (i.Swap (r j) rs1 op2) (IsAlike s r want (Is m) codes f)
    (IsAlike s r want (Is (store_word m a (f j))) codes (put j v f))
swap {r = r} c {May} {m} {f = f} j rs1 op2 a v b sums aligned can value may u h = record {
  to = with_register (record u { memory = store_word m a (f j) }) (r j) v;
  acts = swap_acts u (r j) rs1 op2 a (sums u h) aligned (rw h.memory can) ∙ rw (h.memory, h.held.picked j b, value) refl;
  plain = λ cond q o z. cc;
  pc = refl;
  npc = refl;
  stores = rw h.memory (stores_one May m a (f j) may);
  code = code-store_word m a (f j) ∙ ap code_of (sym h.memory);
  there = record {
    same = h.same;
    codes_are = h.codes_are;
    held = held_put c j v b h.same.window h.held;
    memory = refl;
  };
}

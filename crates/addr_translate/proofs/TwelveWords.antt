-- The translator, word by word.
use Rattle.addr_translate.proofs.Common.{◌≡◌, ◌≢◌, ℕ, ◌+◌, ◌*◌, ◌/◌, ◌%◌, ◌^◌, ◌<◌, ◌≤◌, inl, true, List, length, map, refl, ap, sym, ◌∙◌, subst, arith, bit_and, ◌==◌, pos, wrapped, memory_word, TableAt, table_word, second_block, third_block, looked_up, IsBlock, translator, IsSecondWord, IsAboutToTranslate, Translates}
use Rattle.std.proofs.lemmas.Nat.Bits.{and_high}
use Rattle.v8_decode.specs.declared.Op2.TheVariants.{Reg, Imm}
use Rattle.v8_decode.specs.declared.AluOp.TheVariants as ops
use Rattle.v8_decode.specs.Words.{decode_of}
use Rattle.v8_alu.specs.Alu.{alu_of}
use Rattle.v8_memory.specs.Regions.{Memory, code_of}
use Rattle.v8_step.specs.State.{State, register_of, sum_of}
use Rattle.v8_step.proofs.ValidStates.{register_of-range}
use Rattle.code_runs.specs.Page.{page_word}
use Rattle.code_runs.specs.Code.{of_page, store_word, CanLoad, CanStore}
use Rattle.code_runs.specs.Straight.{StandIn}
use Rattle.code_runs.specs.Picked.{WorksInTwo}
use Rattle.code_runs.proofs.StoredWords.{word_stored, other_loaded, loads_stored, still_stored, can_load, whole_of}
use Rattle.code_runs.proofs.Picked.{Gives, HasTwo, alu, first, goes_on, in_two, ld_in, second, sethi, st_in, two_registers, word, works_none}
use Rattle.code_runs.proofs.Straight.{words_say}

-- ---- numbers
masked : (y : ℕ) → bit_and y 0xffc ≡ 4 * (y / 4 % 1024)
masked y = and_high y 10 2 ∙ omega arith

first_place : (x : ℕ) → x < 2 ^ 32 → 4 * (x / 2 ^ 20 / 4 % 1024) ≡ 4 * (x / 2 ^ 22)
first_place x h = omega arith

second_place : (x : ℕ) → 4 * (x / 2 ^ 10 / 4 % 1024) ≡ 4 * (x / 2 ^ 12 % 2 ^ 10)
second_place x = omega arith

high_part : (base : ℕ) → base % 4096 ≡ 0 → base < 2 ^ 32 → wrapped (1024 * (base / 1024)) ≡ base
high_part base h low = omega arith

pub four : (n : ℕ) → n % 4 ≡ 0 → (n % 4 == 0) ≡ true
four n e = ap (λ z. z == 0) e

-- ---- operations on register a
shifts : (u : State) (a x k : ℕ) → k < 32 → register_of u a ≡ x → Gives ops.SRL a (Imm (pos k)) (x / 2 ^ k) u
unfolding alu_of
shifts u a x k low e =
    let f : wrapped k % 32 ≡ k = omega arith in rw (e, f) refl

masks : (u : State) (a x v : ℕ) → 4 * (x / 4 % 1024) ≡ v → register_of u a ≡ x → Gives ops.AND a (Imm (pos 0xffc)) v u
unfolding alu_of
masks u a x v is e = rw (e, masked x, is) refl

-- b has a block, and a the place in it
entry_sum : (u : State) (a b x y : ℕ) → y + x < 2 ^ 32 → register_of u b ≡ y → register_of u a ≡ x
    → sum_of u b (Reg a) ≡ y + x
entry_sum u a b x y low f e =
    ap (λ z. wrapped (z + register_of u a)) f ∙ ap (λ z. wrapped (y + z)) e
    ∙ (let g : wrapped (y + x) ≡ y + x = omega arith in g)

-- an entry may be loaded, and is that of the table
record IsEntry (m : Memory) (z v : ℕ) : Type 0 where
  pub low : z < 2 ^ 32
  pub aligned : z % 4 ≡ 0
  pub loads : CanLoad m z
  pub is : memory_word m z ≡ v

-- twelve words
translated : (base a b : ℕ) (s : State) (x y t2 t3 v : ℕ) → HasTwo s 12 a b
    → StandIn (code_of s.memory) s.pc (translator base a b) → base % 4096 ≡ 0 → base < 2 ^ 31 → x < 2 ^ 32
    → register_of s a ≡ x → register_of s b ≡ y → CanStore s.memory (page_word 1)
    → IsEntry (store_word s.memory (page_word 1) x) (base + 4 * (x / 2 ^ 22)) t2
    → IsEntry (store_word s.memory (page_word 1) x) (t2 + 4 * (x / 2 ^ 12 % 2 ^ 10)) t3
    → IsEntry (store_word s.memory (page_word 1) x) (t3 + 4 * (x / 2 ^ 2 % 2 ^ 10)) v
    → WorksInTwo s 12 IsSecondWord a b 12 (store_word s.memory (page_word 1) x) v t3
translated base a b s x y t2 t3 v c stand aligned low r ex ey page e1 e2 e3 =
    let m = store_word s.memory (page_word 1) x in
    let paged : CanLoad m (page_word 1) =
    can_load m (page_word 1) (still_stored s.memory (page_word 1) (page_word 1) x page) in
    let back : memory_word m (page_word 1) ≡ x = word_stored s.memory (page_word 1) x r page in
    let i1 = 4 * (x / 2 ^ 22) in
    let i2 = 4 * (x / 2 ^ 12 % 2 ^ 10) in
    let i3 = 4 * (x / 2 ^ 2 % 2 ^ 10) in
    let w0 : WorksInTwo s 12 IsSecondWord a b 0 s.memory x y = in_two (works_none c refl) ex ey in
    let w1 = goes_on c w0 (word s 12 (translator base a b) stand (omega arith) 0 (omega arith))
    (st_in c a 0 (of_page 1) (page_word 1) x (λ u h. refl) refl page (λ u h. first h) refl) in
    let w2 = goes_on c w1 (word s 12 (translator base a b) stand (omega arith) 1 (omega arith))
    (alu c 0 ops.SRL a (Imm (pos 20)) (x / 2 ^ 20) (omega arith)
    (λ u h. shifts u a x 20 (omega arith) (first h))) in
    let w3 = goes_on c w2 (word s 12 (translator base a b) stand (omega arith) 2 (omega arith))
    (alu c 0 ops.AND a (Imm (pos 0xffc)) i1 (omega arith)
    (λ u h. masks u a (x / 2 ^ 20) i1 (first_place x r) (first h))) in
    let w4 = goes_on c w3 (word s 12 (translator base a b) stand (omega arith) 3 (omega arith))
    (sethi c 1 (base / 1024) base (omega arith) (high_part base aligned (omega arith))) in
    let w5 = goes_on c w4 (word s 12 (translator base a b) stand (omega arith) 4 (omega arith))
    (ld_in c 1 b (Reg a) (base + i1) t2 (omega arith)
    (λ u h. entry_sum u a b i1 base e1.low (second h) (first h)) (four (base + i1) e1.aligned) e1.loads e1.is) in
    let w6 = goes_on c w5 (word s 12 (translator base a b) stand (omega arith) 5 (omega arith))
    (ld_in c 0 0 (of_page 1) (page_word 1) x (omega arith) (λ u h. refl) refl paged back) in
    let w7 = goes_on c w6 (word s 12 (translator base a b) stand (omega arith) 6 (omega arith))
    (alu c 0 ops.SRL a (Imm (pos 10)) (x / 2 ^ 10) (omega arith)
    (λ u h. shifts u a x 10 (omega arith) (first h))) in
    let w8 = goes_on c w7 (word s 12 (translator base a b) stand (omega arith) 7 (omega arith))
    (alu c 0 ops.AND a (Imm (pos 0xffc)) i2 (omega arith)
    (λ u h. masks u a (x / 2 ^ 10) i2 (second_place x) (first h))) in
    let w9 = goes_on c w8 (word s 12 (translator base a b) stand (omega arith) 8 (omega arith))
    (ld_in c 1 b (Reg a) (t2 + i2) t3 (omega arith)
    (λ u h. entry_sum u a b i2 t2 e2.low (second h) (first h)) (four (t2 + i2) e2.aligned) e2.loads e2.is) in
    let w10 = goes_on c w9 (word s 12 (translator base a b) stand (omega arith) 9 (omega arith))
    (ld_in c 0 0 (of_page 1) (page_word 1) x (omega arith) (λ u h. refl) refl paged back) in
    let w11 = goes_on c w10 (word s 12 (translator base a b) stand (omega arith) 10 (omega arith))
    (alu c 0 ops.AND a (Imm (pos 0xffc)) i3 (omega arith)
    (λ u h. masks u a x i3 refl (first h))) in
    in_two (goes_on c w11 (word s 12 (translator base a b) stand (omega arith) 11 (omega arith))
    (ld_in c 0 b (Reg a) (t3 + i3) v (omega arith)
    (λ u h. entry_sum u a b i3 t3 e3.low (second h) (first h)) (four (t3 + i3) e3.aligned) e3.loads e3.is))
    refl refl

-- a word of the table, after the store to the page
entry_is : (words : List ℕ) (t : TableAt) (s : State) (v block k : ℕ) → IsAboutToTranslate words t s → IsBlock t block
    → k < 1024 → IsEntry (store_word s.memory (page_word 1) v) (block + 4 * k) (table_word t (block + 4 * k))
entry_is words t s v block k h at low =
    let from = at.from in
    let to = at.to in
    let aligned = at.aligned in
    let limit = h.table.below in
    let f : (block + 4 * k) % 4 ≡ 0 = omega arith in
    let g : t.base ≤ block + 4 * k = omega arith in
    let e : block + 4 * k + 4 ≤ t.base + length t.bytes = omega arith in
    let c = h.stands.readable (block + 4 * k) g e f in
    record {
      low = omega arith;
      aligned = f;
      loads = loads_stored s.memory (block + 4 * k) (page_word 1) v c;
      is = other_loaded s.memory (block + 4 * k) (page_word 1) v c
          (whole_of s.memory (block + 4 * k) c.region h.valid.memory c.at) (inl (omega arith))
          ∙ h.stands.same (block + 4 * k) g e f;
    }

pub translates : (words : List ℕ) (base a b : ℕ) → 0 < a → a < 32 → 0 < b → b < 32 → a ≢ b
    → map decode_of words ≡ translator base a b → Translates words base a b
translates words base a b some below others within differ decode t s e h =
    let x = register_of s a in
    let r : register_of s a < 2 ^ 32 = register_of-range s a h.valid in
    let c : HasTwo s 12 a b =
    two_registers s 12 a b h.valid h.ready h.low some below others within differ in
    let limit = h.table.below in
    let from = h.table.first in
    let root : IsBlock t t.base = record { from = omega arith; to = omega arith; aligned = h.table.aligned } in
    let stand : StandIn (code_of s.memory) s.pc (translator t.base a b) =
    words_say (code_of s.memory) s.pc words (translator t.base a b) h.stand
    (subst (λ z. map decode_of words ≡ translator z a b) (sym e) decode) in
    translated t.base a b s x (register_of s b) (second_block t x) (third_block t x) (looked_up t x) c stand
    h.table.aligned (omega arith) r refl refl h.page
    (entry_is words t s x t.base (x / 2 ^ 22) h root (omega arith))
    (entry_is words t s x (second_block t x) (x / 2 ^ 12 % 2 ^ 10) h (h.table.second x r) (omega arith))
    (entry_is words t s x (third_block t x) (x / 2 ^ 2 % 2 ^ 10) h (h.table.third x r) (omega arith))

-- Numbers: constants in two parts, counters of two cells, and places in rings.
use Rattle.snippet_code.proofs.Common.{◌≡◌, ◌≢◌, ℕ, zero, suc, ◌+◌, ◌-◌, ◌*◌, ◌/◌, ◌%◌, ◌^◌, ◌<◌, ◌≤◌, min, Bool, true, false, bit_and, Ok, refl, ap, sym, ◌∙◌, arith, cond_both, if◌then◌else◌, ◌==◌, nat_lt, pos, negsuc, w32, bit_at, nat_tests, and_le_l, bit_at_and, Codes, alu_of, codes_of, complement, wrapped, State, register_of, put, Count, cast_unsigned, nat_le, sum_overflows, cell_at, small, low}
use Rattle.v8_decode.specs.declared.AluOp.TheVariants as ops
use Rattle.v8_alu.specs.Numbers.{one_if}
use Rattle.snippet_code.proofs.Tops.{top_bit}
use Rattle.snippet_code.proofs.Working.{update_one}

-- ---- numbers

-- the carry out of the low word, by its old and its new value
pub carry_is : (x : ℕ) → x < 2 ^ 32 → bit_and x (complement (wrapped (x + 1))) / 2 ^ 31 ≡ (x + 1) / 2 ^ 32
carry_is x l =
    let y = complement (wrapped (x + 1)) in
    let least : bit_and x y ≤ x = and_le_l x y in
    let ly : y < 2 ^ 32 = omega arith in
    sym (top_bit (bit_and x y) (omega arith)) ∙ bit_at_and x y 31 ∙ ap (λ z. min z (bit_at y 31)) (top_bit x l)
    ∙ ap (min (x / 2 ^ 31)) (top_bit y ly) ∙ omega arith

-- and by the code that the sum sets
pub carried : (x : ℕ) → x < 2 ^ 32 → one_if (nat_le (2 ^ 32) (x + 1 + 0)) ≡ (x + 1) / 2 ^ 32
carried x l = grind (arith, nat_tests)

-- the two words of a number that was counted up
high_word : (x y : ℕ) → x < 2 ^ 32 → y < 2 ^ 32
    → wrapped (x + (y + 1) / 2 ^ 32) ≡ (2 ^ 32 * x + y + 1) % 2 ^ 64 / 2 ^ 32
high_word x y l m = omega arith

low_word : (x y : ℕ) → wrapped (y + 1) ≡ (2 ^ 32 * x + y + 1) % 2 ^ 64 % 2 ^ 32
low_word x y = omega arith

-- the two shifts of a ring's place
pub shifted : (p bits : ℕ) → 1 ≤ bits → bits ≤ 16
    → wrapped (p * 2 ^ (wrapped (32 - bits) % 32)) / 2 ^ (wrapped (30 - bits) % 32) ≡ 4 * (p % 2 ^ bits)
shifted p zero l h = absurd (omega arith)
shifted p (suc (suc (suc (suc (suc (suc (suc (suc (suc (suc (suc (suc (suc (suc (suc (suc (suc n))))))))))))))))) l h =
    absurd (omega arith)
shifted p bits l h = omega arith

-- two words, whichever is put first
pub put_swap : (a x b y : ℕ) (g : ℕ → ℕ) → a ≢ b → (k : ℕ) → put a x (put b y g) k ≡ put b y (put a x g) k
put_swap a x b y g apart k = by (k == a) (k == b) refl refl
  where
    by : (p q : Bool) → (k == a) ≡ p → (k == b) ≡ q
        → (if p then x else (if q then y else g k)) ≡ (if q then y else (if p then x else g k))
    by true true e f = absurd (apart (let z : a ≡ b = grind (arith, nat_tests) in z))
    by p q e f = refl

-- ---- what operations give
pub add_is : (x y v : ℕ) → wrapped (x + y) ≡ v → (codes : Codes) (z : ℕ)
    → alu_of ops.ADD false x y codes z ≡ Ok (record { value = v; codes = codes; y = z })
unfolding alu_of
add_is x y v e codes z =
    ap (λ n. Ok (record { value = n; codes = codes; y = z })) (let f : wrapped (x + y + 0) ≡ v = omega arith in f)

pub small_is : (amount : ℕ) → amount < 2 ^ 32 → wrapped (cast_unsigned w32 (small amount)) ≡ amount
small_is amount h = cond_both (nat_lt amount 4096) (pos amount) (negsuc (2 ^ 32 - 1 - amount))
    (λ z. wrapped (cast_unsigned w32 z) ≡ amount) (λ _. omega arith) (λ _. omega arith)

-- a constant's low bits added to its high ones
pub low_added : (n : ℕ) → n < 2 ^ 32 → (codes : Codes) (z : ℕ)
    → alu_of ops.ADD false (1024 * (n / 1024)) (wrapped (low n)) codes z
    ≡ Ok (record { value = n; codes = codes; y = z })
low_added n h = add_is (1024 * (n / 1024)) (wrapped (low n)) n (omega arith)

pub one_is : (x : ℕ) (codes : Codes) (z : ℕ) → alu_of ops.ADD true x 1 codes z
    ≡ Ok (record {
      value = wrapped (x + 1);
      codes = codes_of (wrapped (x + 1)) (sum_overflows x 1 (wrapped (x + 1))) (nat_le (2 ^ 32) (x + 1 + 0));
      y = z;
    })
unfolding alu_of
one_is x codes z =
    ap (λ v. Ok (record { value = v; codes = codes_of v (sum_overflows x 1 v) (nat_le (2 ^ 32) (x + 1 + 0)); y = z }))
    (let e : wrapped (x + 1 + 0) ≡ wrapped (x + 1) = omega arith in e)

pub carry_added : (x v : ℕ) (codes : Codes) (z : ℕ) → wrapped (x + one_if codes.c) ≡ v
    → alu_of ops.ADDX false x 0 codes z ≡ Ok (record { value = v; codes = codes; y = z })
unfolding alu_of
carry_added x v codes z e =
    ap (λ n. Ok (record { value = n; codes = codes; y = z }))
    (let f : wrapped (x + 0 + one_if codes.c) ≡ v = omega (arith, e) in f)

pub andn_is : (x y : ℕ) (codes : Codes) (z : ℕ)
    → alu_of ops.ANDN false x y codes z ≡ Ok (record { value = bit_and x (complement y); codes = codes; y = z })
unfolding alu_of
andn_is x y codes z = refl

pub srl_is : (x y v : ℕ) → x / 2 ^ (y % 32) ≡ v → (codes : Codes) (z : ℕ)
    → alu_of ops.SRL false x y codes z ≡ Ok (record { value = v; codes = codes; y = z })
unfolding alu_of
srl_is x y v e codes z = ap (λ n. Ok (record { value = n; codes = codes; y = z })) e

pub sll_is : (x y v : ℕ) → wrapped (x * 2 ^ (y % 32)) ≡ v → (codes : Codes) (z : ℕ)
    → alu_of ops.SLL false x y codes z ≡ Ok (record { value = v; codes = codes; y = z })
unfolding alu_of
sll_is x y v e codes z = ap (λ n. Ok (record { value = n; codes = codes; y = z })) e

-- what the words make of the two cells is the number that was counted up
pub counted_up : (s : State) (g : ℕ → ℕ) (cells cell : ℕ) → g (cell_at cells cell) < 2 ^ 32
    → g (cell_at cells (cell + 1)) < 2 ^ 32 → (k : ℕ)
    → put (cell_at cells cell) (wrapped (g (cell_at cells cell) + (g (cell_at cells (cell + 1)) + 1) / 2 ^ 32))
    (put (cell_at cells (cell + 1)) (wrapped (g (cell_at cells (cell + 1)) + 1)) g) k
    ≡ update_one (cell_at cells) (register_of s) (Count cell) g k
counted_up s g cells cell l m k =
    let a = cell_at cells cell in
    let b = cell_at cells (cell + 1) in
    let apart : a ≢ b = λ e. (omega arith) in
    ap (λ v. put a v (put b (wrapped (g b + 1)) g) k) (high_word (g a) (g b) l m)
    ∙ ap (λ v. put a ((2 ^ 32 * g a + g b + 1) % 2 ^ 64 / 2 ^ 32) (put b v g) k) (low_word (g a) (g b))
    ∙ put_swap a ((2 ^ 32 * g a + g b + 1) % 2 ^ 64 / 2 ^ 32) b ((2 ^ 32 * g a + g b + 1) % 2 ^ 64 % 2 ^ 32) g apart k

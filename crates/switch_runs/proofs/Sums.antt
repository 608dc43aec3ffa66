-- The rows for ADD, OR, SLL and LD say what these do.
use Rattle.switch_runs.proofs.Common.{◌≡◌, ℕ, ◌+◌, ◌*◌, ◌^◌, ◌<◌, ap, ◌∙◌, arith, cond_both, if◌then◌else◌, ◌==◌, bit_or, nat_tests, Words, wrapped, count_of, Value, Unknown, Const, Index, Place, either, either_const, if_zero, plus, plus_const, shifted}
use Rattle.std.specs.Int.Bits.{or_zero_l, or_zero_r}
use Rattle.switch_runs.proofs.Meaning.{Meaning}

module _ (text : Words) (x : ℕ) (K : Type 0) where
  -- 0 and a value, where the operation leaves the other number
  zero_means : (a : ℕ) (v : Value) (n m : ℕ) → (a ≡ 0 → m ≡ n) → Meaning text x K v n
      → Meaning text x K (if_zero a v) m
  zero_means a v n m f h =
      cond_both (a == 0) v Unknown (λ (u : Value). Meaning text x K u m)
      (λ e. let none : a ≡ 0 = grind (arith, nat_tests) in rw (f none) h) (λ _. tt)

  plus_const_means : (a : ℕ) (v : Value) (n : ℕ) → n < 2 ^ 32 → Meaning text x K v n
      → Meaning text x K (plus_const a v) (wrapped (a + n))
  plus_const_means a (Const c) n l h = ap (λ k. wrapped (a + k)) h
  plus_const_means a (Place c) n l h = let e : n ≡ wrapped (c + 4 * x) = h.1 in (h.0, omega arith)
  plus_const_means a v n l h = zero_means a v n _ (λ e. omega arith) h

  -- the other way round
  turned_plus : (b : ℕ) (v : Value) (m n : ℕ) → m < 2 ^ 32 → Meaning text x K v m → n ≡ b
      → Meaning text x K (plus_const b v) (wrapped (m + n))
  turned_plus b v m n k g h =
      let e : wrapped (b + m) ≡ wrapped (m + n) = omega arith in rw e at (plus_const_means b v m k g)

  pub plus_means : (u v : Value) (m n : ℕ) → m < 2 ^ 32 → n < 2 ^ 32 → Meaning text x K u m → Meaning text x K v n
      → Meaning text x K (plus u v) (wrapped (m + n))
  plus_means (Const a) v m n k l g h = rw g (plus_const_means a v n l h)
  plus_means u (Const b) m n k l g h = turned_plus b u m n k g h
  plus_means _ _ m n k l g h = tt

  either_const_means : (a : ℕ) (v : Value) (n : ℕ) → Meaning text x K v n
      → Meaning text x K (either_const a v) (bit_or a n)
  either_const_means a (Const c) n h = ap (bit_or a) h
  either_const_means a v n h = zero_means a v n _ (λ e. ap (λ k. bit_or k n) e ∙ or_zero_l n) h

  zero_after : (b : ℕ) (v : Value) (m n : ℕ) → Meaning text x K v m → n ≡ b
      → Meaning text x K (if_zero b v) (bit_or m n)
  zero_after b v m n g h = zero_means b v m _ (λ e. ap (bit_or m) (h ∙ e) ∙ or_zero_r m) g

  pub either_means : (u v : Value) (m n : ℕ) → Meaning text x K u m → Meaning text x K v n
      → Meaning text x K (either u v) (bit_or m n)
  either_means (Const a) v m n g h = rw g (either_const_means a v n h)
  either_means u (Const b) m n g h = zero_after b u m n g h
  either_means _ _ m n g h = tt

  index_shifted : (b m n : ℕ) → K × (m ≡ x) → n ≡ b
      → Meaning text x K (if b == 2 then Place 0 else Unknown) (wrapped (m * 2 ^ count_of n))
  index_shifted b m n g h =
      cond_both (b == 2) (Place 0) Unknown (λ (v : Value). Meaning text x K v (wrapped (m * 2 ^ count_of n)))
      (λ e.
      let two : b ≡ 2 = grind (arith, nat_tests) in
      let sum : wrapped (m * 4) ≡ wrapped (0 + 4 * x) = omega arith in
      (g.0, (ap (λ k. wrapped (m * 2 ^ count_of k)) (h ∙ two)) ∙ sum)) (λ _. tt)

  pub shifted_means : (u v : Value) (m n : ℕ) → Meaning text x K u m → Meaning text x K v n
      → Meaning text x K (shifted u v) (wrapped (m * 2 ^ count_of n))
  shifted_means Index (Const b) m n g h = index_shifted b m n g h
  shifted_means _ _ m n g h = tt

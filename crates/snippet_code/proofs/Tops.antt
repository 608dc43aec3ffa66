-- The greater of two numbers, by the borrow of their difference.
use Rattle.snippet_code.proofs.Common.{◌≡◌, ℕ, ◌+◌, ◌-◌, ◌/◌, ◌%◌, ◌^◌, ◌<◌, ◌≤◌, inl, inr, max, min, Bool, true, false, cond, bit_and, refl, ap, sym, ◌∙◌, arith, bit_at, and_le_l, bit_at_and, cases_lt, alu_of, wrapped, complement, bit_or, and_mask, and_comm, or_lt, bit_at_or, le-leb, lt-leb, leb-true, leb-false, shifted_right, is_negative}
use Rattle.snippet_code.proofs.TopValue.{TopIsGreater, top_of}

-- bit 31 of a number of 32 bits
pub top_bit : (n : ℕ) → n < 2 ^ 32 → bit_at n 31 ≡ n / 2 ^ 31
top_bit n l = omega arith

-- the borrow
abbrev borrow : ℕ → ℕ → ℕ → ℕ
borrow c x d = bit_or (bit_and (bit_or x (complement c)) d) (bit_and x (complement c))

borrow_bit : (c x d : ℕ) → c < 2 ^ 32 → x < 2 ^ 32 → d < 2 ^ 32
    → bit_at (borrow c x d) 31 ≡ max (min (max (x / 2 ^ 31) ((2 ^ 32 - 1 - c) / 2 ^ 31)) (d / 2 ^ 31))
    (min (x / 2 ^ 31) ((2 ^ 32 - 1 - c) / 2 ^ 31))
borrow_bit c x d lc lx ld =
    let n = complement c in
    bit_at_or (bit_and (bit_or x n) d) (bit_and x n) 31 ∙ ap (λ p. max p (bit_at (bit_and x n) 31))
    (cc (bit_at_and (bit_or x n) d 31, bit_at_or x n 31))
    ∙ ap (λ p. max (min (max (bit_at x 31) (bit_at n 31)) (bit_at d 31)) p) (bit_at_and x n 31)
    ∙ ap (λ p. max (min (max p (bit_at n 31)) (bit_at d 31)) (min p (bit_at n 31))) (top_bit x lx)
    ∙ ap (λ p. max (min (max (x / 2 ^ 31) p) (bit_at d 31)) (min (x / 2 ^ 31) p)) (top_bit n (omega arith))
    ∙ ap (λ p. max (min (max (x / 2 ^ 31) (n / 2 ^ 31)) p) (min (x / 2 ^ 31) (n / 2 ^ 31))) (top_bit d ld)

borrow_below : (c x d : ℕ) → c < 2 ^ 32 → x < 2 ^ 32 → d < 2 ^ 32 → borrow c x d < 2 ^ 32
borrow_below c x d lc lx ld =
    let n = complement c in
    or_lt 32 (bit_and (bit_or x n) d) (bit_and x n)
    (let a : bit_and (bit_or x n) d ≤ bit_or x n = and_le_l _ _ in let b : bit_or x n < 2 ^ 32 = or_lt 32 x n lx
    (omega arith) in omega arith) (let a : bit_and x n ≤ x = and_le_l _ _ in omega arith)

-- a mask of all ones, or of none
masked : (r d : ℕ) → r < 2 ^ 32 → d < 2 ^ 32 → bit_and (shifted_right r 31) d ≡ cond (is_negative r) d 0
masked r d lr ld = by (is_negative r) refl
  where
    by : (b : Bool) → is_negative r ≡ b
        → bit_and (cond b (complement (complement r / 2 ^ 31)) (r / 2 ^ 31)) d ≡ cond b d 0
    by true e =
        let above : 2 ^ 31 ≤ r = leb-true _ _ e in
        let all : complement (complement r / 2 ^ 31) ≡ 2 ^ 32 - 1 = omega arith in
        let whole : d % 2 ^ 32 ≡ d = omega arith in
        ap (λ m. bit_and m d) all ∙ and_comm (2 ^ 32 - 1) d ∙ and_mask d 32 ∙ whole
    by false e =
        let below : r < 2 ^ 31 = leb-false _ _ e in
        let none : r / 2 ^ 31 ≡ 0 = omega arith in
        let least : bit_and 0 d ≤ 0 = and_le_l 0 d in
        ap (λ m. bit_and m d) none ∙ omega arith

abbrev difference : ℕ → ℕ → ℕ
difference c x = wrapped (2 ^ 33 + c - (x + 0))

-- the borrow's bit 31 says which is less
negative_borrow : (c x : ℕ) → c < 2 ^ 32 → x < 2 ^ 32 → c < x → is_negative (borrow c x (difference c x)) ≡ true
negative_borrow c x lc lx l =
    let d = difference c x in
    let ld : d < 2 ^ 32 = omega arith in
    let top = top_bit (borrow c x d) (borrow_below c x d lc lx ld) in
    let one : borrow c x d / 2 ^ 31 ≡ 1 = sym top ∙ (borrow_bit c x d lc lx ld) ∙ omega arith in
    le-leb _ _ (omega arith)

positive_borrow : (c x : ℕ) → c < 2 ^ 32 → x < 2 ^ 32 → x ≤ c → is_negative (borrow c x (difference c x)) ≡ false
positive_borrow c x lc lx l =
    let d = difference c x in
    let ld : d < 2 ^ 32 = omega arith in
    let top = top_bit (borrow c x d) (borrow_below c x d lc lx ld) in
    let none : borrow c x d / 2 ^ 31 ≡ 0 = sym top ∙ (borrow_bit c x d lc lx ld) ∙ omega arith in
    lt-leb _ _ (omega arith)

pub top_is_greater : TopIsGreater
unfolding top_of alu_of
top_is_greater codes y c x lc lx = elim (cases_lt c x) [
  | inl l ↦
      let e : bit_and (shifted_right (borrow c x (difference c x)) 31) (difference c x) ≡ difference c x =
      m ∙ ap (λ b. cond b (difference c x) 0) (negative_borrow c x lc lx l) in
      ap (λ n. wrapped (2 ^ 33 + c - (n + 0))) e ∙ omega arith
  | inr l ↦
      let e : bit_and (shifted_right (borrow c x (difference c x)) 31) (difference c x) ≡ 0 =
      m ∙ ap (λ b. cond b (difference c x) 0) (positive_borrow c x lc lx l) in
      ap (λ n. wrapped (2 ^ 33 + c - (n + 0))) e ∙ omega arith
]
  where
    below : difference c x < 2 ^ 32
    below = omega arith

    m : bit_and (shifted_right (borrow c x (difference c x)) 31) (difference c x) ≡ cond
        (is_negative (borrow c x (difference c x))) (difference c x) 0
    m = masked (borrow c x (difference c x)) (difference c x) (borrow_below c x (difference c x) lc lx below) below

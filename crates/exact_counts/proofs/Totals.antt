-- How often each edge is completed is in all how long the walk is.
use Rattle.exact_counts.proofs.Common.{◌≡◌, ℕ, zero, suc, ◌+◌, ◌<◌, ◌≤◌, cond, List, [], ◌∷◌, length, slice_index, refl, ◌∙◌, arith, ◌==◌, sum_by-cons, times, walk, Each, nat_tests, sum, total, total_plus, ExecutionsAddUp}
use Rattle.exact_counts.proofs.Gone.{walk_within}

total_first : (n : ℕ) (f : ℕ → ℕ) → total f (suc n) ≡ f 0 + total (λ i. f (suc i)) n
unfolding total
total_first zero f = omega arith
total_first (suc n) f = omega (arith, total_first n f)

-- x is among the numbers below n once, if it is below n
one_below : (x n : ℕ) → (n ≤ x → total (λ i. cond (i == x) 1 0) n ≡ 0) × (x < n → total (λ i. cond (i == x) 1 0) n ≡ 1)
unfolding total
one_below x zero = (λ h. refl, λ l. absurd (omega (arith, l)))
one_below x (suc n) =
    let before = one_below x n in
    let none = before.0 in
    (λ h. grind (arith, nat_tests, none), λ l. grind (arith, nat_tests, none, before.1))

-- each of some numbers is counted once
times_all : (n : ℕ) (es : List ℕ) → Each (λ e. e < n) es → total (times es) n ≡ length es
times_all n [] within = omega (arith, total_plus (times []) (times []) n)
times_all n (x ∷ es) within =
    omega (
      arith,
      total_plus (λ i. cond (i == x) 1 0) (times es) n,
      (one_below x n).1 within.0,
      times_all n es within.1,
    )

sum_total : (xs : List ℕ) (f : ℕ → ℕ) → ((i : ℕ) → i < length xs → slice_index xs i ≡ f i) → sum xs ≡ total f (length xs)
unfolding total
sum_total [] f same = refl
sum_total (x ∷ xs) f same =
    omega (
      arith,
      sum_by-cons (λ (n : ℕ). n) x xs,
      sum_total xs (λ i. f (suc i)) (λ i l. same (suc i) (omega (arith, l))),
      total_first (length xs) f,
      same 0 (omega arith),
    )

pub executions_add_up : ExecutionsAddUp
executions_add_up text graph entry s0 n counts size are =
    let es = walk text graph entry s0 n in
    sum_total counts (times es) are ∙ times_all (length counts) es (rw size (walk_within text graph entry s0 n))

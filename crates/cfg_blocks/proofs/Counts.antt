-- How many numbers of an ascending list are at most some number.
use Rattle.cfg_blocks.proofs.Common.{◌≡◌, ℕ, zero, suc, ◌+◌, ◌-◌, ◌<◌, ◌≤◌, Bool, true, false, nat_le, List, length, take, slice_index, count_by, refl, arith, add-one, add-zero, inl, inr, AllWithin, IsPartitionedBy, IsPartitionPoint, cases_lt, leb-true, leb-false, le-leb, take-length, get_or_default_zero, AreFirsts, IsAscending}
use Rattle.std.proofs.lemmas.List.Sums.{count_by_more_yes, count_by_more_no}

pub not_down : (xs : List ℕ) (i j : ℕ) → IsAscending xs → i ≤ j → j < length xs → slice_index xs i ≤ slice_index xs j
not_down xs i j a l h = elim (cases_lt i j) [ inl less ↦ omega (arith, a i j less h) | inr same ↦ grind arith ]

pub partitioned : (xs : List ℕ) (word : ℕ) → IsAscending xs → IsPartitionedBy (λ first. nat_le first word) xs
partitioned xs word a = λ i j d l h t.
    let below : slice_index xs j ≤ word = leb-true _ _ (rw (get_or_default_zero xs j d h) at t) in
    rw (get_or_default_zero xs i d (omega arith)) (le-leb _ _ (omega (arith, not_down xs i j a l h)))

counts_front : (p : ℕ → Bool) (xs : List ℕ) (i : ℕ) → i ≤ length xs → AllWithin (λ x. p x ≡ true) xs 0 i
    → (k : ℕ) → k ≤ i → count_by p (take k xs) ≡ k
counts_front p xs i h passes zero l = refl
counts_front p xs i h passes (suc k) l =
    rw (← add-one k, count_by_more_yes p xs k 0 (omega arith) (passes k 0 (omega arith) (omega arith)))
    (omega (arith, counts_front p xs i h passes k (omega arith)))

counts_rest : (p : ℕ → Bool) (xs : List ℕ) (i : ℕ) → i ≤ length xs
    → IsPartitionPoint (λ x. p x ≡ true) (λ x. p x ≡ false) xs i
    → (k : ℕ) → i + k ≤ length xs → count_by p (take (i + k) xs) ≡ i
counts_rest p xs i h point zero l = rw add-zero (counts_front p xs i h point.0 i (omega arith))
counts_rest p xs i h point (suc k) l =
    let next : i + suc k ≡ i + k + 1 = omega arith in
    rw (next, count_by_more_no p xs (i + k) 0 (omega arith) (point.1 (i + k) 0 (omega arith) (omega arith)))
    (counts_rest p xs i h point k (omega arith))

pub count_at_point : (p : ℕ → Bool) (xs : List ℕ) (i : ℕ) → i ≤ length xs
    → IsPartitionPoint (λ x. p x ≡ true) (λ x. p x ≡ false) xs i → count_by p xs ≡ i
count_at_point p xs i h point =
    let rest : i + (length xs - i) ≡ length xs = omega arith in
    rw (rest, take-length) at (counts_rest p xs i h point (length xs - i) (omega arith))

pub some_begun : (firsts : List ℕ) (words word i : ℕ) → AreFirsts words firsts
    → IsPartitionPoint (λ first. nat_le first word ≡ true) (λ first. nat_le first word ≡ false) firsts i
    → 1 ≤ i
some_begun firsts words word zero f point =
    let f_some : 1 ≤ length firsts = f.some in
    absurd (omega (arith, f.begin, leb-false _ _ (point.1 0 0 (omega arith) (omega arith))))
some_begun firsts words word (suc i) f point = omega arith

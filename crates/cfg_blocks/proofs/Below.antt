-- The numbers below n, and those of them that pass a test.
use Rattle.cfg_blocks.proofs.Common.{◌≡◌, ℕ, zero, suc, ◌+◌, ◌<◌, ◌≤◌, Bool, true, false, ◌||◌, cond, List, [], ◌∷◌, ◌++◌, length, map, get_or, slice_index, refl, ap, add-one, arith, length-append, filter, list_any, append-nil, map-append, filter-append, common_steps, list_any-append, below, AreFirsts}

pub length-below : (n : ℕ) → length (below n) ≡ n
length-below zero = refl
length-below (suc n) = omega (arith, length-append (below n) (n ∷ []), length-below n)

pub get_or-below : (n k d : ℕ) → k < n → get_or (below n) k d ≡ k
get_or-below zero k d h = absurd (omega arith)
get_or-below (suc n) k d h = grind (arith, common_steps, length-below n, get_or-below n k d)

-- tests that agree on them take the same
pub filter_below_same : (n : ℕ) (p q : ℕ → Bool) → ((k : ℕ) → k < n → p k ≡ q k)
    → filter p (below n) ≡ filter q (below n)
filter_below_same zero p q same = refl
filter_below_same (suc n) p q same =
    simp (filter-append, filter_below_same n p q (λ k h. same k (omega arith)), same n (omega arith))

-- the next is taken, if it passes
pub filter_below_more : (n : ℕ) (p : ℕ → Bool) (t : Bool) → t ≡ p n
    → filter p (below n) ++ cond t (n ∷ []) [] ≡ filter p (below (n + 1))
filter_below_more n p t is = rw (is, add-one) (simp (filter-append))

pub any_below_same : (n : ℕ) (p q : ℕ → Bool) → ((k : ℕ) → k < n → p k ≡ q k)
    → list_any p (below n) ≡ list_any q (below n)
any_below_same zero p q same = refl
any_below_same (suc n) p q same =
    simp (list_any-append, any_below_same n p q (λ k h. same k (omega arith)), same n (omega arith))

pub map_below_same : {A : Type 0} (n : ℕ) (f g : ℕ → A) → ((k : ℕ) → k < n → f k ≡ g k)
    → map f (below n) ≡ map g (below n)
map_below_same zero f g same = refl
map_below_same (suc n) f g same =
    simp (map-append, map_below_same n f g (λ k h. same k (omega arith)), same n (omega arith))

-- the value at the next is added
pub map_below_push : {A : Type 0} (n : ℕ) (f : ℕ → A) (xs new : List A) (x : A) → new ≡ xs ++ x ∷ [] → x ≡ f n
    → (xs ≡ map f (below n)) × (length xs ≡ n) → (new ≡ map f (below (n + 1))) × (length new ≡ n + 1)
map_below_push n f xs new x is at before = (
  rw (is, before.0, at, add-one) (simp (map-append)),
  omega (arith, ap length is, length-append xs (x ∷ []), before.1),
)

pub list_any-map : {A B : Type 0} (p : B → Bool) (f : A → B) (xs : List A)
    → list_any p (map f xs) ≡ list_any (λ x. p (f x)) xs
list_any-map p f [] = refl
list_any-map p f (x ∷ xs) = ap (λ b. p (f x) || b) (list_any-map p f xs)

-- ---- those that pass a test, as the first words of blocks

record IsAscending (n : ℕ) (xs : List ℕ) : Type 0 where
  few : length xs ≤ n
  ascend : (i j : ℕ) → i < j → j < length xs → slice_index xs i < slice_index xs j
  within : (i : ℕ) → i < length xs → slice_index xs i < n

longer : (n : ℕ) (xs : List ℕ) → IsAscending n xs → IsAscending (suc n) xs
longer n xs a = record {
  few = omega (arith, a.few);
  ascend = a.ascend;
  within = λ i h. omega (arith, a.within i h);
}

with_last : (n : ℕ) (xs : List ℕ) → IsAscending n xs → IsAscending (suc n) (xs ++ n ∷ [])
with_last n xs a = record {
  few = omega (arith, a.few, length-append xs (n ∷ []));
  ascend = λ i j l h. grind (arith, common_steps, a.ascend i j, a.within i);
  within = λ i h. grind (arith, common_steps, a.within i);
}

ascending : (n : ℕ) (p : ℕ → Bool) → IsAscending n (filter p (below n))
ascending zero p = record {
  few = omega arith;
  ascend = λ i j l h. absurd (omega arith);
  within =
      λ i h. absurd (omega arith);
}
ascending (suc n) p = rw (filter-append p (below n) (n ∷ [])) (picked (p n) (ascending n p))
  where
    picked : (b : Bool) → IsAscending n (filter p (below n))
        → IsAscending (suc n) (filter p (below n) ++ cond b (n ∷ []) [])
    picked true a = with_last n (filter p (below n)) a
    picked false a = rw append-nil (longer n (filter p (below n)) a)

abbrev BeginsWithZero : List ℕ → Type 0
BeginsWithZero xs = (1 ≤ length xs) × (slice_index xs 0 ≡ 0)

still_begins : (xs ys : List ℕ) → BeginsWithZero xs → BeginsWithZero (xs ++ ys)
still_begins [] ys h = absurd (omega (arith, h.0))
still_begins (x ∷ xs) ys h = (omega arith, h.1)

begins : (n : ℕ) (p : ℕ → Bool) → p 0 ≡ true → BeginsWithZero (filter p (below (suc n)))
begins zero p h = rw h (omega arith, refl)
begins (suc n) p h = rw (filter-append p (below (suc n)) (suc n ∷ [])) (still_begins _ _ (begins n p h))

pub filter_below_firsts : (n : ℕ) (p : ℕ → Bool) → 0 < n → p 0 ≡ true → AreFirsts n (filter p (below n))
filter_below_firsts zero p some h = absurd (omega arith)
filter_below_firsts (suc n) p some h =
    let a = ascending (suc n) p in
    let b = begins n p h in
    record { some = b.0; few = a.few; begin = b.1; ascend = a.ascend; within = a.within }

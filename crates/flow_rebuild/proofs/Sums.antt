-- Sums of absolute values.
use Rattle.flow_rebuild.proofs.Common.{◌≡◌, ◌*◌, Bool, true, false, cond, ℕ, zero, suc, ◌+◌, ◌<◌, ◌≤◌, ◌^◌, inl, inr, List, [], ◌∷◌, length, get_or, set, take, add-one, refl, ap, sym, ◌∙◌, arith, ℤ, pos, ◌+ℤ◌, neg_ℤ, nat_abs, FitsSigned, w128, ints, to_z-of_z, fits_signed_from_abs, get_or_read, get_or-set_other, get_or-set_same, length-set, get_or-replicate, get_or_past, length-replicate, cond_both, cases_lt, cases_eq, eq-eqb, ne_eqb, or_parts, All, All-head, All-tail, replicate, ◌==◌, if◌then◌else◌, link_at, graph_of, on, Link, true_or_false, excess_below, int_at, abs_sum, added, passed, carries, edges_in, Join, on_more}
use mir.Val.{to_z, of_z}
use Rattle.std.proofs.Math.Bool.{or-false}

pub small_at : (xs : List ℤ) (i : ℕ) → nat_abs (int_at xs i) ≤ abs_sum xs
small_at [] i = omega arith
small_at (x ∷ xs) zero = omega arith
small_at (x ∷ xs) (suc i) = let r = small_at xs i in omega (arith, r)

pub small_read : (xs : List ℤ) (i : ℕ) (x : ℤ) → i < length xs → x ≡ get_or xs i x → abs_sum xs < 2 ^ 126 → nat_abs x < 2 ^ 126
small_read xs i x l e h = rw (get_or_read xs i x l e (pos 0)) (let a = small_at xs i in omega arith)

pub abs_add : (a b : ℤ) → nat_abs (a +ℤ b) ≤ nat_abs a + nat_abs b
abs_add a b = grind arith

pub abs_set : (xs : List ℤ) (i : ℕ) (z : ℤ) → i < length xs → abs_sum (set xs i z) + nat_abs (int_at xs i) ≡ abs_sum xs + nat_abs z
abs_set [] i z l = absurd (omega arith)
abs_set (x ∷ xs) zero z l = omega arith
abs_set (x ∷ xs) (suc i) z l = let r = abs_set xs i z (omega arith) in omega (arith, r)

-- a number is added at i
pub abs_set_add : (xs : List ℤ) (i : ℕ) (z : ℤ) → i < length xs → abs_sum (set xs i (int_at xs i +ℤ z)) ≤ abs_sum xs + nat_abs z
abs_set_add xs i z l = let a = abs_set xs i (int_at xs i +ℤ z) l in let b = abs_add (int_at xs i) z in omega (arith, a, b)

-- the number at v goes to p
pub abs_moved : (xs : List ℤ) (p v : ℕ) → p < length xs → v < length xs → (p ≡ v → ⊥) → abs_sum (set (set xs p (int_at xs p +ℤ int_at xs v)) v (pos 0)) ≤ abs_sum xs
abs_moved xs p v lp lv n =
    let x = int_at xs p +ℤ int_at xs v in
    let a = abs_set (set xs p x) v (pos 0) (omega (arith, length-set xs p x)) in
    let d = ap nat_abs (get_or-set_other xs p v x (pos 0) (λ d. n (sym d))) in
    omega (arith, a, d, abs_set xs p x lp, abs_add (int_at xs p) (int_at xs v))

pub abs_take_more : (xs : List ℤ) (i : ℕ) → i < length xs → abs_sum (take (i + 1) xs) ≡ abs_sum (take i xs) + nat_abs (int_at xs i)
abs_take_more xs i l = rw add-one (go xs i l)
  where
    go : (xs : List ℤ) (i : ℕ) → i < length xs → abs_sum (take (suc i) xs) ≡ abs_sum (take i xs) + nat_abs (int_at xs i)
    go [] i l = absurd (omega arith)
    go (x ∷ xs) zero l = omega arith
    go (x ∷ xs) (suc i) l = let r = go xs i (omega arith) in omega (arith, r)

pub abs_take : (xs : List ℤ) (i : ℕ) → abs_sum (take i xs) ≤ abs_sum xs
abs_take xs zero = omega arith
abs_take [] (suc i) = omega arith
abs_take (x ∷ xs) (suc i) = let r = abs_take xs i in omega (arith, r)

pub back_small : (z : ℤ) → nat_abs z < 2 ^ 126 → to_z w128 (of_z w128 z) ≡ z
back_small z h = to_z-of_z w128 z (fits_signed_from_abs w128 z (omega arith))

pub sum_fits : (a b : ℤ) → nat_abs a < 2 ^ 126 → nat_abs b < 2 ^ 126 → FitsSigned w128 (to_z w128 (of_z w128 a) +ℤ to_z w128 (of_z w128 b))
sum_fits a b h k = rw (back_small a h, back_small b k) (fits_signed_from_abs w128 (a +ℤ b) (omega (arith, abs_add a b)))

pub int_none : (n u : ℕ) → int_at (replicate n (pos 0)) u ≡ pos 0
int_none n u = elim (cases_lt u n) [
  | inl l ↦ get_or-replicate n u (pos 0) (pos 0) l
  | inr l ↦ get_or_past (replicate n (pos 0)) u (pos 0) (omega (arith, length-replicate n (pos 0)))
]

abs_zero : (xs : List ℤ) → ((i : ℕ) → int_at xs i ≡ pos 0) → abs_sum xs ≡ 0
abs_zero [] h = refl
abs_zero (x ∷ xs) h = let r = abs_zero xs (λ i. h (suc i)) in let e : nat_abs x ≡ 0 = ap nat_abs (h 0) in omega (arith, r, e)

pub abs_none : (n : ℕ) (xs : List ℤ) → xs ≡ replicate n (pos 0) → abs_sum xs ≡ 0
abs_none n xs e = abs_zero xs (λ i. ap (λ (ys : List ℤ). int_at ys i) e ∙ int_none n i)

pub abs_added : (xs ys : List ℤ) (v : ℕ) (z : ℤ) → ys ≡ added xs v z → v < length xs → abs_sum ys ≤ abs_sum xs + nat_abs z
abs_added xs ys v z e l = let a = abs_set_add xs v z l in let b = ap abs_sum e in omega (arith, a, b)

abs_neg : (z : ℤ) → nat_abs (neg_ℤ z) ≡ nat_abs z
abs_neg z = grind arith

-- what a link carries is as great as what it takes away
pub abs_carries : (l : Link) (v : ℕ) (z : ℤ) → nat_abs (carries l v z) ≡ nat_abs z
abs_carries l v z = cond_both (l.to == v) (neg_ℤ z) z (λ c. nat_abs c ≡ nat_abs z) (λ h. abs_neg z) (λ h. refl)

pub abs_passed : (xs ys : List ℤ) (l : Link) (z : ℤ) → ys ≡ passed xs l z → l.to < length xs → l.from < length xs → abs_sum ys ≤ abs_sum xs + 2 * nat_abs z
abs_passed xs ys l z e a b =
    let q = abs_set_add (added xs l.to z) l.from (neg_ℤ z) (omega (arith, length-set xs l.to (int_at xs l.to +ℤ z))) in
    rw e (omega (arith, q, abs_set_add xs l.to z a, abs_neg z))

-- one number more
int_added : (xs : List ℤ) (v u : ℕ) (z : ℤ) → v < length xs → int_at (added xs v z) u ≡ int_at xs u +ℤ (if v == u then z else pos 0)
int_added xs v u z l = elim (cases_eq v u) [
  | inl c ↦ rw (← c) (rw (eq-eqb v v refl) (get_or-set_same xs v (int_at xs v +ℤ z) (pos 0) l))
  | inr c ↦ rw (ne_eqb v u c) (omega (arith, ints, get_or-set_other xs v u (int_at xs v +ℤ z) (pos 0) (λ d. c (sym d))))
]

cond_neg : (j : Bool) (z : ℤ) → cond j (neg_ℤ z) (pos 0) ≡ neg_ℤ (cond j z (pos 0))
cond_neg j z = grind arith

-- one link more
pub passed_excess : (n : ℕ) (links : List Link) (values : List ℤ) (a b k u : ℕ) (xs ys : List ℤ) → ys ≡ passed xs (link_at links k) (int_at values k) → (link_at links k).to < length xs → (link_at links k).from < length xs →
    int_at xs u ≡ excess_below (graph_of n links) k a b (int_at values) u → int_at ys u ≡ excess_below (graph_of n links) (k + 1) a b (int_at values) u
passed_excess n links values a b k u xs ys e lt lf h = rw (add-one, e) (
    let z = int_at values k in let t = (link_at links k).to in let f = (link_at links k).from in
    let p = int_added xs t u z lt in
    let q = int_added (added xs t z) f u (neg_ℤ z) (omega (arith, length-set xs t (int_at xs t +ℤ z))) in
    omega (arith, ints, p, q, cond_neg (f == u) z, h))

abs_most : (xs : List ℤ) → All (λ z. nat_abs z < 2 ^ 64) xs → abs_sum xs ≤ length xs * 18446744073709551616
abs_most [] h = omega arith
abs_most (x ∷ xs) h =
    let a = All-head (λ (z : ℤ). nat_abs z < 2 ^ 64) x xs h in
    let r = abs_most xs (All-tail (λ (z : ℤ). nat_abs z < 2 ^ 64) x xs h) in
    omega (arith, a, r)

-- values of 64 bits, as many as a slice can hold
pub abs_bound : (xs : List ℤ) → length xs * 16 < 9223372036854775808 → All (λ z. nat_abs z < 2 ^ 64) xs → 2 * abs_sum xs + 2 < 2 ^ 126
abs_bound xs l h = let k = abs_most xs h in omega (arith, k)

-- ---- one more edge of the tree is set to 0
pub cleared_more : (given xs : List ℤ) (js : List Join) (i : ℕ) (d : Join) → i < length js → (get_or js i d).edge < length xs →
    ((e : ℕ) → on (edges_in (take i js)) e ≡ false → int_at xs e ≡ int_at given e) →
    (e : ℕ) → on (edges_in (take (i + 1) js)) e ≡ false → int_at (set xs (get_or js i d).edge (pos 0)) e ≡ int_at given e
cleared_more given xs js i d l m h e o =
    let parts = or_parts _ _ (rw (on_more js i d e l) at o) in
    get_or-set_other xs (get_or js i d).edge e (pos 0) (pos 0) (λ k. true_or_false _ (eq-eqb e (get_or js i d).edge k) parts.1) ∙ h e parts.0

pub cleared_on : (xs : List ℤ) (js : List Join) (i : ℕ) (d : Join) → i < length js → (get_or js i d).edge < length xs →
    ((e : ℕ) → on (edges_in (take i js)) e ≡ true → int_at xs e ≡ pos 0) →
    (e : ℕ) → on (edges_in (take (i + 1) js)) e ≡ true → int_at (set xs (get_or js i d).edge (pos 0)) e ≡ pos 0
cleared_on xs js i d l m h e o = elim (cases_eq e (get_or js i d).edge) [
  | inl k ↦ rw k (get_or-set_same xs (get_or js i d).edge (pos 0) (pos 0) m)
  | inr k ↦ get_or-set_other xs (get_or js i d).edge e (pos 0) (pos 0) k ∙ h e (rw (on_more js i d e l, ne_eqb e (get_or js i d).edge k, or-false) at o)
]

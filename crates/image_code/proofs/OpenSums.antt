-- Sums over lists: of sizes at numbers that differ, of how many words pass a test, and of what the edges have that are
-- found.
use Rattle.image_code.proofs.Common.{[], ◌≡◌, ℕ, zero, suc, ◌+◌, ◌*◌, ◌<◌, ◌≤◌, Bool, true, false, ◌==◌, nat_lt, cond, Option, Some, None, List, ◌∷◌, append-nil, length, refl, arith, if◌then◌else◌, flat_map, position, range_with_len, sum_by, option_to_list, add-mul, nat_tests, sum_by-append, sum_by-cons, below, Edge, Each, count_by, total, cases_lt, inl, inr, slice_get, count_by-le-length}
use Rattle.std.proofs.lemmas.List.Sums.{sum_by-le-sum_by}
use Rattle.image_code.proofs.Positions.{below_range, position_at}

-- ---- numbers that differ

abbrev pub AreDistinct : List ℕ → Type 0
AreDistinct [] = Unit {0}
AreDistinct (k ∷ ks) = Each (λ j. j ≡ k → ⊥) ks × AreDistinct ks

-- a function that is 0 at one place
abbrev without : ℕ → (ℕ → ℕ) → ℕ → ℕ
without k f j = if j == k then 0 else f j

without_one : (k n : ℕ) (f : ℕ → ℕ) → total (without k f) n + (if nat_lt k n then f k else 0) ≡ total f n
unfolding total
without_one k zero f = grind (arith, nat_tests)
without_one k (suc n) f = grind (arith, nat_tests, without_one k n f)

without_apart : (k : ℕ) (f : ℕ → ℕ) (ks : List ℕ) → Each (λ j. j ≡ k → ⊥) ks → sum_by (without k f) ks ≡ sum_by f ks
without_apart k f [] apart = refl
without_apart k f (j ∷ ks) apart =
    grind (arith, nat_tests, sum_by-cons (without k f) j ks, sum_by-cons f j ks, apart.0, without_apart k f ks apart.1)

pub distinct_sum : (f : ℕ → ℕ) (m : ℕ) (ks : List ℕ) → AreDistinct ks → Each (λ k. k < m) ks
    → sum_by f ks ≤ total f m
unfolding total
distinct_sum f m [] apart low = omega arith
distinct_sum f m (k ∷ ks) apart low =
    let rest = distinct_sum (without k f) m ks apart.1 low.1 in
    grind (arith, nat_tests, sum_by-cons f k ks, without_apart k f ks apart.0, without_one k m f, low.0)

-- ---- how many pass

abbrev counts : {A : Type 0} → (A → Bool) → A → ℕ
counts p x = cond (p x) 1 0

pub count_le : {A : Type 0} (p q : A → Bool) (xs : List A) → ((x : A) → p x ≡ true → q x ≡ true)
    → count_by p xs ≤ count_by q xs
count_le p q xs more = sum_by-le-sum_by (counts p) (counts q) xs (λ x. grind (arith, more x))

pub count_none : {A : Type 0} (p : A → Bool) (xs : List A) → Each (λ x. p x ≡ false) xs → count_by p xs ≡ 0
count_none p [] none = refl
count_none p (x ∷ xs) none = grind (arith, nat_tests, sum_by-cons (counts p) x xs, none.0, count_none p xs none.1)

count_range : (q : ℕ → Bool) (from n to s : ℕ) → from ≤ to
    → ((w : ℕ) → from ≤ w → w < from + n → q w ≡ true → (to ≤ w) × (w < to + s))
    → count_by q (range_with_len from n) ≤ count_by q (range_with_len to s)
count_range q from zero to s l only = omega arith
count_range q from (suc n) to zero l only =
    let rest = count_range q (from + 1) n (from + 1) 0 (omega arith)
    (λ w m below e. absurd (omega (arith, only w (omega (arith, m)) (omega (arith, below)) e))) in
    simp sum_by-cons (grind (arith, nat_tests, only from))
count_range q from (suc n) to (suc s) l only = elim (cases_lt from to) [
  | inl less ↦
      let rest = count_range q (from + 1) n to (suc s) (omega arith)
      (λ w m below e. only w (omega (arith, m)) (omega (arith, below)) e) in
      grind (arith, nat_tests, sum_by-cons (counts q) from (range_with_len (from + 1) n), only from)
  | inr more ↦
      let same : to ≡ from = omega arith in
      let rest = count_range q (from + 1) n (from + 1) s (omega arith)
      (λ w m below e. omega (arith, only w (omega (arith, m)) (omega (arith, below)) e, m)) in
      rw same (simp sum_by-cons (omega (arith, rest)))
]

-- where only words of a range pass, those below a number are no more
pub count_within : (q : ℕ → Bool) (n a s : ℕ) → ((w : ℕ) → w < n → q w ≡ true → (a ≤ w) × (w < a + s))
    → count_by q (below n) ≤ count_by q (range_with_len a s)
count_within q n a s only =
    rw (below_range n) (count_range q 0 n a s (omega arith) (λ w m below e. only w (omega (arith, below)) e))

pub count_single : (q : ℕ → Bool) (n a : ℕ) → ((w : ℕ) → q w ≡ true → w ≡ a) → count_by q (below n) ≤ 1
count_single q n a only =
    let one = count_within q n a 1 (λ w l e. let same = only w e in omega (arith, same)) in
    omega (arith, one, count_by-le-length q (a ∷ []))

-- ---- the words of edges that are found: p says which edges may be found for an item

abbrev pub code_length : (ℕ → List ℕ) → List ℕ → ℕ
code_length codes edges = length (flat_map codes edges)

-- the words of edges of which it passes, the first of which has this number
abbrev pub one_use : (ℕ → Edge → Bool) → (ℕ → List ℕ) → ℕ → List Edge → ℕ
one_use q codes number [] = 0
one_use q codes number (edge ∷ edges) =
    (if q number edge then length (codes number) else 0) + one_use q codes (suc number) edges

-- of some tests
abbrev pub uses : (ℕ → List ℕ) → List (ℕ → Edge → Bool) → ℕ → List Edge → ℕ
uses codes tests number edges = sum_by (λ q. one_use q codes number edges) tests

pub uses_next : (codes : ℕ → List ℕ) (tests : List (ℕ → Edge → Bool)) (number : ℕ) (edge : Edge) (edges : List Edge)
    → uses codes tests number (edge ∷ edges)
    ≡ count_by (λ q. q number edge) tests * length (codes number) + uses codes tests (suc number) edges
uses_next codes [] number edge edges = omega arith
uses_next codes (q ∷ tests) number edge edges =
    let rest = uses_next codes tests number edge edges in
    let product = add-mul (cond (q number edge) 1 0) (count_by (λ p. p number edge) tests) (length (codes number)) in
    simp sum_by-cons (grind (arith, nat_tests))

pub found_use : (q : ℕ → Edge → Bool) (codes : ℕ → List ℕ) (n k number : ℕ) (edge : Edge) (edges : List Edge)
    → slice_get edges k ≡ Some edge → n ≡ number + k → q n edge ≡ true → length (codes n) ≤ one_use q codes number edges
found_use q codes n k number edge [] at is e = absurd (cc)
found_use q codes n zero number edge (x ∷ edges) at is e = grind (arith, nat_tests)
found_use q codes n (suc k) number edge (x ∷ edges) at is e =
    omega (arith, found_use q codes n k (suc number) edge edges at (omega arith) e)

pub position_use : (q : Edge → Bool) (codes : ℕ → List ℕ) (edges : List Edge)
    → code_length codes (option_to_list (position q edges)) ≤ one_use (λ n. q) codes 0 edges
position_use q codes edges = by (position q edges) refl
  where
    by : (o : Option ℕ) → position q edges ≡ o → code_length codes (option_to_list o) ≤ one_use (λ n. q) codes 0 edges
    by None e = omega arith
    by (Some k) e =
        let found = position_at q edges k e in
        rw append-nil (found_use (λ n. q) codes k k 0 found.0 edges found.1 (omega arith) found.2)

-- ---- lists of lists

pub sum_flat : {A B : Type 0} (f : B → ℕ) (g : A → List B) (xs : List A)
    → sum_by f (flat_map g xs) ≡ sum_by (λ x. sum_by f (g x)) xs
sum_flat f g [] = refl
sum_flat f g (x ∷ xs) = simp (sum_by-append, sum_by-cons, sum_flat f g xs)

-- There are no more ranges than Marks, wherever pieces are laid.
use Rattle.edit_core.proofs.Common.{◌≡◌, ℕ, zero, suc, ◌+◌, ◌*◌, ◌≤◌, Bool, true, ◌&&◌, cond, nat_le, nat_lt, List, [], ◌∷◌, length, Some, refl, arith, slice_get, sum_by, count_by, count_by-le-length, length-append, sum_by-append, ◌++◌, nat_tests, sum_by-cons, NoteRange, Item, Ascend, IsLaid, IsRangeOf, Placement, item_at, is_mark, marks_in}
use Rattle.layout.specs.declared.items.Item.TheVariants as it

-- whether an address lies between two others
abbrev between : ℕ → ℕ → ℕ → Bool
between from to a = nat_le from a && nat_lt a to

-- where the items after Marks stand, where the first item has the number n
marked : (ℕ → ℕ) → List Item → ℕ → List ℕ
marked place [] n = []
marked place (x ∷ xs) n = cond (is_mark x) (place (suc n) ∷ marked place xs (suc n)) (marked place xs (suc n))

all_marked : (ℕ → ℕ → ℕ) → List (List Item) → ℕ → List ℕ
all_marked place [] k = []
all_marked place (items ∷ pieces) k = marked (place k) items 0 ++ all_marked place pieces (suc k)

-- ---- two spans, one after the other

split : (xs : List ℕ) (from mid to : ℕ) → from ≤ mid → mid ≤ to
    → count_by (between from mid) xs + count_by (between mid to) xs ≤ count_by (between from to) xs
split [] from mid to l m = omega arith
split (x ∷ xs) from mid to l m =
    let later = split xs from mid to l m in
    let one = sum_by-cons (λ z. cond (between from mid z) 1 0) x xs in
    let other = sum_by-cons (λ z. cond (between mid to z) 1 0) x xs in
    grind (arith, nat_tests, one, other, sum_by-cons (λ z. cond (between from to z) 1 0) x xs)

-- ---- a Mark in a span

some_mark : (q : ℕ → Bool) (place : ℕ → ℕ) (xs : List Item) (i n : ℕ) (x : Item) → slice_get xs i ≡ Some x
    → is_mark x ≡ true → q (place (suc (n + i))) ≡ true → 1 ≤ count_by q (marked place xs n)
unfolding marked
some_mark q place [] i n x e mark is = absurd (cc)
some_mark q place (y ∷ ys) zero n x e mark is =
    let same : n + 0 ≡ n = omega arith in
    let here = rw same at is in
    grind (arith, sum_by-cons (λ z. cond (q z) 1 0) (place (suc n)) (marked place ys (suc n)))
some_mark q place (y ∷ ys) (suc i) n x e mark is =
    let same : n + suc i ≡ suc n + i = omega arith in
    let later = some_mark q place ys i (suc n) x e mark (rw same at is) in
    grind (arith, sum_by-cons (λ z. cond (q z) 1 0) (place (suc n)) (marked place ys (suc n)))

some_marked : (q : ℕ → Bool) (place : ℕ → ℕ → ℕ) (pieces : List (List Item)) (j k n : ℕ) (x : Item)
    → item_at pieces j n ≡ Some x → is_mark x ≡ true → q (place (k + j) (suc n)) ≡ true
    → 1 ≤ count_by q (all_marked place pieces k)
unfolding all_marked
some_marked q place [] j k n x e mark is = absurd (cc)
some_marked q place (items ∷ pieces) zero k n x e mark is =
    let one : k + 0 ≡ k = omega arith in
    let two : 0 + n ≡ n = omega arith in
    let here = some_mark q (place k) items n 0 x e mark (rw two (rw one at is)) in
    omega (arith, sum_by-append (λ z. cond (q z) 1 0) (marked (place k) items 0) (all_marked place pieces (suc k)), here)
some_marked q place (items ∷ pieces) (suc j) k n x e mark is =
    let same : k + suc j ≡ suc k + j = omega arith in
    let later = some_marked q place pieces j (suc k) n x e mark (rw same at is) in
    omega (arith, sum_by-append (λ z. cond (q z) 1 0) (marked (place k) items 0) (all_marked place pieces (suc k)), later)

-- ---- all Marks

few : (place : ℕ → ℕ) (xs : List Item) (n : ℕ) → length (marked place xs n) ≡ marks_in xs
unfolding marked
few place [] n = refl
few place (x ∷ xs) n =
    let later = few place xs (suc n) in grind (arith, sum_by-cons (λ (z : Item). cond (is_mark z) 1 0) x xs)

all_few : (place : ℕ → ℕ → ℕ) (pieces : List (List Item)) (k : ℕ)
    → length (all_marked place pieces k) ≡ sum_by marks_in pieces
unfolding all_marked
all_few place [] k = refl
all_few place (items ∷ pieces) k = simp (length-append, few, all_few place pieces (suc k), sum_by-cons)

-- ---- ranges

ascending_few : (pieces : List (List Item)) (place : ℕ → ℕ → ℕ) (from to : ℕ) (rs : List NoteRange) → Ascend from to rs
    → ((n : ℕ) (r : NoteRange) → slice_get rs n ≡ Some r → IsRangeOf pieces place r)
    → (length rs ≤ count_by (between from to) (all_marked place pieces 0)) × (from ≤ to)
ascending_few pieces place from to [] ascend are = (omega arith, ascend)
ascending_few pieces place from to (r ∷ rs) ascend are =
    let (low, some, rest) = ascend in
    let later = ascending_few pieces place r.hi to rs rest (λ n q e. are (suc n) q e) in
    let m : IsRangeOf pieces place r = are 0 r refl in
    let at = m.lo in
    let inside : between from r.hi (place (0 + m.piece) (suc m.item)) ≡ true = grind (arith, nat_tests) in
    let here = some_marked (between from r.hi) place pieces m.piece 0 m.item (it.Mark m.address r.node) m.mark refl
    inside in
    let both = split (all_marked place pieces 0) from r.hi to (omega (arith, low, some)) later.1 in
    (omega (arith, here, both, later.0), omega (arith, low, some, later.1))

pub ranges_few : (pieces : List (List Item)) (base : ℕ) (p : Placement) (place : ℕ → ℕ → ℕ) → IsLaid pieces base p place
    → length p.ranges ≤ sum_by marks_in pieces
ranges_few pieces base p place laid =
    let many = ascending_few pieces place _ _ p.ranges laid.ascend laid.marks in
    let all = all_marked place pieces 0 in
    omega (arith, many.0, count_by-le-length (between base (base + 4 * length p.code)) all, all_few place pieces 0)

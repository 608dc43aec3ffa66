-- What the operations on masks do to the sets that the masks stand for.
use Rattle.v8_decode.proofs.Common.{◌≡◌, ℕ, zero, suc, ◌+◌, ◌-◌, ◌*◌, ◌/◌, ◌%◌, ◌^◌, ◌<◌, ◌≤◌, Bool, true, not, cond, ◌&&◌, ◌||◌, List, [], ◌∷◌, ◌++◌, length, ◌==◌, bit_and, bit_or, refl, sym, ap, ◌∙◌, arith, filter, and_le_l, and_mod, mod-pow-add, one_shl, ones-le, ones_cat, or_lt, or_mod, shr-shr, bit_at-lt, bit_at_lowest, bit_at_or, shr_and_one, bit_at_set_same, bit_at_set_other, bit_at_clear_same, bit_at_clear_other, and-or_distrib_left, nat_tests, Part, Reg, is_same, is_member, has, every_part, members, set_of, without, place_of, is_marked, parts_of, reg, IsPlacedFrom, every_part_placed, every_part_length}
use native.Mathlib.Nat.{pow-suc}
use lib.Pow.{pow-lt}
use lib.Count.{ones, ones_in}
use Rattle.std.specs.Int.{bit_at, w64}
use Rattle.v8_decode.specs.Private.{is_part}
use Rattle.v8_decode.proofs.Members.{has-append, has-filter, has-members, members-same}
pub use Rattle.v8_decode.proofs.Examples.{trap_16}

pub is_part-member : (p : Part) → is_member p ≡ true → is_part p ≡ true
is_part-member (Reg r) h = grind (arith, nat_tests)
is_part-member p h = refl

pub member_place : (p : Part) → is_member p ≡ true → 0 < place_of p
member_place p h = grind (arith, nat_tests)

pub part_place : (p : Part) → is_part p ≡ true → place_of p < 34
part_place p h = grind (arith, nat_tests)

-- a part with a place is a member
pub is_member-part : (p : Part) → is_part p ≡ true → 0 < place_of p → is_member p ≡ true
is_member-part (Reg r) h low = grind (arith, nat_tests)
is_member-part p h low = refl

-- parts differ where their places do
pub same_place : (p q : Part) → is_part p ≡ true → is_part q ≡ true → is_same p q ≡ (place_of p == place_of q)
same_place p q hp hq = grind (arith, nat_tests)

-- at a member, a set has what its test says
pub has-members_at : (f : Part → Bool) (p : Part) → is_member p ≡ true → has (members f) p ≡ f p
has-members_at f p h = has-members f p ∙ ap (λ b. b && f p) h

pub set_of-members : (f : Part → Bool) → set_of (members f) ≡ members f
set_of-members f = members-same (has (members f)) f (has-members_at f)

pub set_of-append : (xs ys : List Part) → set_of (set_of xs ++ set_of ys) ≡ set_of (xs ++ ys)
set_of-append xs ys =
    members-same _ _ (λ p h. rw (has-append (set_of xs), has-members_at (has xs), has-members_at (has ys), has-append) refl)

-- a set has members alone
pub has-set : (s : List Part) (p : Part) → set_of s ≡ s → (is_member p && has s p) ≡ has s p
has-set s p set = sym (has-members (has s) p) ∙ ap (λ t. has t p) set

-- what a mask stands for is a set
pub view_set : (m : ℕ) (s : List Part) → parts_of m ≡ s → set_of s ≡ s
view_set m s e = ap set_of (sym e) ∙ set_of-members (is_marked m) ∙ e

-- two sets with the same members are equal
pub same_sets : (s t : List Part) → set_of s ≡ s → set_of t ≡ t → ((p : Part) → is_member p ≡ true → has s p ≡ has t p) → s ≡ t
same_sets s t set_s set_t same = sym set_s ∙ members-same (has s) (has t) same ∙ set_t

-- what a set has after each operation
pub has-with : (s r : List Part) (p q : Part) → r ≡ set_of (p ∷ s) → has r q ≡ (is_member q && (is_same q p || has s q))
has-with s r p q e = ap (λ t. has t q) e ∙ has-members (has (p ∷ s)) q

pub has-without : (s r : List Part) (p q : Part) → r ≡ without s p → has r q ≡ (has s q && not (is_same q p))
has-without s r p q e = ap (λ t. has t q) e ∙ has-filter (λ x. not (is_same x p)) s q

pub has-union : (s t r : List Part) (q : Part) → set_of s ≡ s → set_of t ≡ t → r ≡ set_of (s ++ t) → has r q ≡ (has s q || has t q)
has-union s t r q set_s set_t e =
    rw (e, has-members (has (s ++ t)) q, has-append s t q, and-or_distrib_left, has-set s q set_s, has-set t q set_t) refl

-- the union of two lists' sets
pub joined : (r a b xs ys : List Part) → r ≡ set_of (a ++ b) → a ≡ set_of xs → b ≡ set_of ys → r ≡ set_of (xs ++ ys)
joined r a b xs ys u ea eb = u ∙ ap (λ s. set_of (s ++ b)) ea ∙ ap (λ s. set_of (set_of xs ++ s)) eb ∙ set_of-append xs ys

-- a register's set
pub set_of-reg : (r : ℕ) → set_of (Reg r ∷ []) ≡ set_of (reg r)
set_of-reg zero = members-same _ _ (λ p h. grind (arith, nat_tests))
set_of-reg (suc r) = refl

is_marked-or : (a b : ℕ) (p : Part) → is_marked (bit_or a b) p ≡ (is_marked a p || is_marked b p)
is_marked-or a b p =
    let low_a = bit_at-lt a (place_of p) in
    let low_b = bit_at-lt b (place_of p) in
    rw (bit_at_or a b (place_of p)) (grind (arith, nat_tests))

-- union
pub parts_of-or : (a b : ℕ) → parts_of (bit_or a b) ≡ set_of (parts_of a ++ parts_of b)
parts_of-or a b =
    members-same _ _ (λ p h. rw (is_marked-or, has-append, has-members_at (is_marked a), has-members_at) refl)

-- one more part
pub parts_of-set : (m : ℕ) (p : Part) → is_part p ≡ true → parts_of (bit_or m (1 * 2 ^ place_of p % 2 ^ 64)) ≡ set_of (p ∷ parts_of m)
parts_of-set m p part =
    members-same _ _ (λ q h. rw (same_place q p (is_part-member q h) part, has-members_at (is_marked m) q h) (marked q h))
  where
    within : place_of p < 64
    within = let low = part_place p part in omega arith

    marked : (q : Part) → is_member q ≡ true → is_marked (bit_or m (1 * 2 ^ place_of p % 2 ^ 64)) q ≡ (place_of q == place_of p || is_marked m q)
    marked q h =
        let same = bit_at_set_same w64 m (place_of p) within in
        grind (arith, nat_tests, same, bit_at_set_other w64 m (place_of p) within (place_of q))

-- %g0 is in no set
pub parts_of-none : (m : ℕ) (p : Part) → is_part p ≡ true → place_of p ≡ 0 → parts_of m ≡ set_of (p ∷ parts_of m)
parts_of-none m p part none =
    members-same _ _ (λ q h.
    let low = member_place q h in
    rw (same_place q p (is_part-member q h) part, has-members_at (is_marked m) q h) (grind (arith, nat_tests)))

-- one part less
filter-filter : (f g : Part → Bool) (ps : List Part) → filter g (filter f ps) ≡ filter (λ p. f p && g p) ps
filter-filter f g [] = refl
filter-filter f g (p ∷ ps) = grind (arith, nat_tests, filter-filter f g ps)

pub without-members : (f : Part → Bool) (p : Part) → without (members f) p ≡ members (λ q. f q && not (is_same q p))
unfolding members
without-members f p = filter-filter f (λ q. not (is_same q p)) every_part

pub parts_of-clear : (m : ℕ) (p : Part) → is_part p ≡ true → parts_of (bit_and m (2 ^ 64 - 1 - 1 * 2 ^ place_of p % 2 ^ 64)) ≡ without (parts_of m) p
parts_of-clear m p part =
    members-same _ _ (λ q h. rw (same_place q p (is_part-member q h) part) (marked q h)) ∙ sym (without-members (is_marked m) p)
  where
    within : place_of p < 64
    within = let below = part_place p part in omega arith

    low : (q : Part) → is_member q ≡ true → place_of q < 64
    low q h = let below = part_place q (is_part-member q h) in omega arith

    marked : (q : Part) → is_member q ≡ true → is_marked (bit_and m (2 ^ 64 - 1 - 1 * 2 ^ place_of p % 2 ^ 64)) q ≡ (is_marked m q && not (place_of q == place_of p))
    marked q h =
        let same = bit_at_clear_same w64 m (place_of p) within in
        grind (arith, nat_tests, same, bit_at_clear_other w64 m (place_of p) within (place_of q) (low q h))

-- membership
pub has-parts_of : (m : ℕ) (p : Part) → m % 2 ≡ 0 → is_part p ≡ true → has (parts_of m) p ≡ (bit_and (m / 2 ^ place_of p) 1 == 1)
has-parts_of m p even part =
    rw (has-members (is_marked m) p, shr_and_one m (place_of p))
    (grind (arith, nat_tests, is_member-part p part, bit_at_lowest m))

-- the number of members
ones_of_bit : (b : ℕ) → b < 2 → ones b ≡ b
unfolding ones ones_in
ones_of_bit zero h = refl
ones_of_bit (suc zero) h = refl
ones_of_bit (suc (suc b)) h = absurd (omega arith)

length-filter : (m k : ℕ) (ps : List Part) → IsPlacedFrom k ps → length (filter (is_marked m) ps) ≡ ones (m / 2 ^ k % 2 ^ length ps)
length-filter m k [] h =
    let none : m / 2 ^ k % 2 ^ 0 ≡ 0 = omega arith in
    sym (ap ones none ∙ ones_of_bit 0 (omega arith))
length-filter m k (p ∷ ps) h = rw split (go (length-filter m (suc k) ps h.1) (is_marked m p) refl)
  where
    next : m / 2 ^ k / 2 ^ 1 ≡ m / 2 ^ suc k
    next = let e : k + 1 ≡ suc k = omega arith in shr-shr m k 1 ∙ ap (λ j. m / 2 ^ j) e

    split : ones (m / 2 ^ k % 2 ^ suc (length ps)) ≡ ones (m / 2 ^ suc k % 2 ^ length ps) + bit_at m k
    split =
        let e : suc (length ps) ≡ length ps + 1 = omega arith in
        let low = bit_at-lt m k in
        rw (e, mod-pow-add, next, ones_cat 1 _ (bit_at m k) low, ones_of_bit (bit_at m k) low) refl

    go : length (filter (is_marked m) ps) ≡ ones (m / 2 ^ suc k % 2 ^ length ps) → (b : Bool) → is_marked m p ≡ b
        → length (cond b (p ∷ filter (is_marked m) ps) (filter (is_marked m) ps)) ≡ ones (m / 2 ^ suc k % 2 ^ length ps) + bit_at m k
    go rest b e = let low = bit_at-lt m k in grind (arith, nat_tests, h.0)

ones_even : (m : ℕ) → m % 2 ≡ 0 → ones m ≡ ones (m / 2 ^ 1)
ones_even m even =
    let split : m ≡ m / 2 ^ 1 * 2 ^ 1 + 0 = omega arith in
    omega (arith, ap ones split, ones_cat 1 (m / 2 ^ 1) 0 (omega arith), ones_of_bit 0 (omega arith))

pub length-parts_of : (m : ℕ) → m < 2 ^ 34 → m % 2 ≡ 0 → length (parts_of m) ≡ ones m
unfolding members
length-parts_of m below even =
    let whole : m / 2 ^ 1 % 2 ^ 33 ≡ m / 2 ^ 1 = omega arith in
    length-filter m 1 every_part every_part_placed ∙ rw (every_part_length, whole) (sym (ones_even m even))

pub ones_le : (m : ℕ) → m < 2 ^ 34 → m % 2 ≡ 0 → ones m ≤ 33
ones_le m below even =
    let half : m / 2 ^ 1 < 2 ^ 33 = omega arith in
    let few = ones-le 33 (m / 2 ^ 1) half in
    omega (arith, ones_even m even)

-- what the operations keep: a mask has 34 bits, the lowest of them 0
pub or_below : (a b : ℕ) → a < 2 ^ 34 → b < 2 ^ 34 → a % 2 ≡ 0 → b % 2 ≡ 0 → (bit_or a b < 2 ^ 34) × (bit_or a b % 2 ≡ 0)
or_below a b below_a below_b even_a even_b =
    let zeros : bit_or 0 0 < 2 ^ 0 = or_lt 0 0 0 (omega arith) (omega arith) in
    (or_lt 34 a b below_a below_b, or_mod a b 1 ∙ ap (λ x. bit_or x (b % 2)) even_a ∙ ap (λ x. bit_or 0 x) even_b ∙ omega arith)

pub and_below : (a b : ℕ) → a < 2 ^ 34 → a % 2 ≡ 0 → (bit_and a b < 2 ^ 34) × (bit_and a b % 2 ≡ 0)
and_below a b below even =
    let least = and_le_l a b in
    let low : bit_and 0 (b % 2) ≤ 0 = and_le_l 0 (b % 2) in
    (omega arith, and_mod a b 1 ∙ ap (λ x. bit_and x (b % 2)) even ∙ omega arith)

-- one bit, other than the lowest
pub bit_below : (k : ℕ) → 0 < k → k < 34 → (1 * 2 ^ k % 2 ^ 64 < 2 ^ 34) × (1 * 2 ^ k % 2 ^ 64 % 2 ≡ 0)
bit_below zero low high = absurd (omega arith)
bit_below (suc k) low high =
    let fits : suc k < 64 = omega arith in
    let shifted = one_shl (suc k) 64 fits in
    let less : 2 ^ suc k < 2 ^ 34 = pow-lt high in
    let twice : 2 ^ suc k ≡ 2 ^ k * 2 = pow-suc 2 k in
    (omega arith, omega arith)

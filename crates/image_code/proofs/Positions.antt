-- Items of lists by their places: behind other lists, in the lists of items, and the first that passes a test.
use Rattle.image_code.proofs.Common.{[], get_or-below, length-below, below, ◌≡◌, ℕ, zero, suc, ◌+◌, ◌<◌, ◌≤◌, Bool, true, false, cond, Some, None, List, ◌∷◌, ◌++◌, length, get_or, map, take, length-append, refl, ap, sym, ◌∙◌, arith, slice_get, find, flat_map, list_any, position, position_or_len, range_with_len, sum_by, nat_tests, lt-ltb, length-map-range_with_len, sum_by-cons, get_or_from_slice_get, slice_get-get_or, slice_get_within, Contains, find_at, get_or-map-range_with_len, get_or-range_with_len, length-range_with_len, slice_get-map, enumerate_from, get_or-enumerate_from, length-enumerate_from, Any-from_list_any, list_any_at, same_Some, fails_before_first, passes_at_first, position_or_len_is, position-Some, Label, same_label, ◌==◌, eq-eqb, ne_eqb, list_any-append, not, zero-add}
use Rattle.std.proofs.lemmas.List.{map-id}
use Rattle.std.proofs.lemmas.List.Folds.{prefix_len-append}
use Rattle.std.proofs.lemmas.List.FromFn.{fill_by_all}
use Rattle.cfg_blocks.proofs.Below.{list_any-map}
pub use Rattle.layout.proofs.Standing.{get_first, get_rest as get_second}

-- ---- lists behind others

pub get_past : {A : Type 0} (xs ys : List A) (n m : ℕ) (x : A) → n ≡ length xs + m → slice_get ys m ≡ Some x
    → slice_get (xs ++ ys) n ≡ Some x
get_past xs ys n m x e at = rw e (get_second xs ys m ∙ at)

pub get_taken : {A : Type 0} (n k : ℕ) (xs : List A) → k < n → slice_get (take n xs) k ≡ slice_get xs k
get_taken zero k xs l = absurd (omega arith)
get_taken (suc n) k [] l = refl
get_taken (suc n) zero (x ∷ xs) l = refl
get_taken (suc n) (suc k) (x ∷ xs) l = get_taken n k xs (omega arith)

pub contains : {A : Type 0} (xs : List A) (k : ℕ) (x : A) → slice_get xs k ≡ Some x → Contains xs x
contains xs k x e = (k, slice_get_within xs k x e, get_or_from_slice_get xs k x x e)

-- an item that was looked up
pub looked_up : {A : Type 0} (xs ys : List A) (k : ℕ) (x : A) → xs ≡ ys → k < length xs → x ≡ get_or xs k x
    → slice_get ys k ≡ Some x
looked_up {A = A} xs ys k x same low is = rw (← same) (slice_get-get_or xs k x low ∙ ap (λ (y : A). Some y) (sym is))

-- ---- ranges

pub below_range : (n : ℕ) → below n ≡ range_with_len 0 n
below_range n =
    fill_by_all (λ (k : ℕ). k) (below n) n 0 (length-below n) (λ k l. get_or-below n k 0 l) ∙ map-id (range_with_len 0 n)

pub range_get : {A : Type 0} (f : ℕ → A) (from count n : ℕ) → n < count
    → slice_get (map f (range_with_len from count)) n ≡ Some (f (from + n))
range_get {A = A} f from count n l =
    slice_get-get_or (map f (range_with_len from count)) n (f 0) (omega (arith, l, length-map-range_with_len f from count))
    ∙ ap (λ (x : A). Some x) (get_or-map-range_with_len f from count n (from + n) (f 0) l refl)

-- of items with their numbers
pub numbered_get : {A B : Type 0} (f : ℕ → A → B) (xs : List A) (k : ℕ) (x : A) → slice_get xs k ≡ Some x
    → slice_get (map (λ (p : ℕ × A). f p.0 p.1) (enumerate_from 0 xs)) k ≡ Some (f k x)
numbered_get f xs k x e =
    let low = slice_get_within xs k x e in
    let at = slice_get-get_or (enumerate_from 0 xs) k (0, x) (omega (arith, low, length-enumerate_from 0 xs)) in
    rw (slice_get-map, at, get_or-enumerate_from 0 xs k (0, x) low, get_or_from_slice_get xs k x x e, zero-add k) refl

-- ---- the lists of items, each of which is so long

module _ {A B : Type 0} (f : A → List B) (size : A → ℕ) where
  abbrev pub Sized : List A → Type 0
  Sized xs = (k : ℕ) (x : A) → slice_get xs k ≡ Some x → length (f x) ≡ size x

  pub flat_count : (xs : List A) → Sized xs → length (flat_map f xs) ≡ sum_by size xs
  flat_count [] sized = refl
  flat_count (y ∷ xs) sized =
      simp length-append (omega (arith, sized 0 y refl, flat_count xs (λ k. sized (suc k)), sum_by-cons size y xs))

-- ---- the first that passes a test

pub record IsPlace {A : Type 0} (p : A → Bool) (xs : List A) : Type 0 where
  pub number : ℕ
  pub item : A
  pub at : position p xs ≡ Some number
  pub is : slice_get xs number ≡ Some item
  pub first : find p xs ≡ Some item
  pub passes : p item ≡ true
  pub fails : (k : ℕ) (y : A) → k < number → slice_get xs k ≡ Some y → p y ≡ false

pub placed : {A : Type 0} (p : A → Bool) (xs : List A) → list_any p xs ≡ true → IsPlace p xs
placed p xs any =
    let some = Any-from_list_any p xs any in
    let n = position_or_len p xs in
    let within : n < length xs = grind (arith, fails_before_first p xs some.0 some.1, some.2, ap p some.3 ∙ some.4) in
    let is = slice_get-get_or xs n some.1 within in
    record {
      number = n;
      item = get_or xs n some.1;
      at = ap (λ (b : Bool). cond b (Some n) None) (lt-ltb _ _ within);
      is = is;
      first = find_at p xs ∙ is;
      passes = passes_at_first p xs some.1 within;
      fails = λ k y l e. sym (ap p (get_or_from_slice_get xs k y y e)) ∙ fails_before_first p xs k y l;
    }

pub position_at : {A : Type 0} (p : A → Bool) (xs : List A) (k : ℕ) → position p xs ≡ Some k
    → (x : A) × (slice_get xs k ≡ Some x) × (p x ≡ true)
position_at p [] k e = absurd (cc)
position_at p (x ∷ xs) k e =
    let found = position-Some p (x ∷ xs) k x e in (get_or (x ∷ xs) k x, slice_get-get_or (x ∷ xs) k x found.0, found.1)

pub any_at : {A : Type 0} (p : A → Bool) (xs : List A) (k : ℕ) (x : A) → slice_get xs k ≡ Some x → p x ≡ true
    → list_any p xs ≡ true
any_at p xs k x e h = list_any_at p xs k x (slice_get_within xs k x e) (ap p (get_or_from_slice_get xs k x x e) ∙ h)

-- ---- the first such label

-- it stands there, and nowhere before
pub record StandsIn (xs : List Label) (x : Label) (n : ℕ) : Type 0 where
  pub is : slice_get xs n ≡ Some x
  pub first : position_or_len (same_label x) xs ≡ n

abbrev pub IsNew : Label → List Label → Type 0
IsNew x xs = list_any (same_label x) xs ≡ false

pub any_flat : {A B : Type 0} (p : B → Bool) (f : A → List B) (xs : List A)
    → list_any p (flat_map f xs) ≡ list_any (λ x. list_any p (f x)) xs
any_flat p f [] = refl
any_flat p f (x ∷ xs) = rw (list_any-append p (f x) (flat_map f xs), any_flat p f xs) refl

pub none_any : {A : Type 0} (xs : List A) → list_any (λ x. false) xs ≡ false
none_any [] = refl
none_any (x ∷ xs) = none_any xs

pub past_range : (word from n : ℕ) → from + n ≤ word → list_any (λ v. word == v) (range_with_len from n) ≡ false
past_range word from zero low = refl
past_range word from (suc n) low = grind (arith, nat_tests, past_range word (from + 1) n)

-- what shows that a label is new
pub ruleset news = (list_any-append, list_any-map, any_flat, none_any)

position_past : {A : Type 0} (p : A → Bool) (xs ys : List A) → list_any p xs ≡ false
    → position_or_len p (xs ++ ys) ≡ length xs + position_or_len p ys
position_past p [] ys none = omega arith
position_past p (x ∷ xs) ys none = grind (arith, nat_tests, position_past p xs ys)

pub before : (xs ys : List Label) {x : Label} {n : ℕ} → StandsIn xs x n → StandsIn (xs ++ ys) x n
before xs ys {x = x} {n = n} s =
    let low = slice_get_within xs n x s.is in
    record {
      is = get_first xs ys n x s.is;
      first = grind (arith, nat_tests, prefix_len-append (λ y. not (same_label x y)) xs ys, s.first, low);
    }

pub behind : (xs ys : List Label) {x : Label} {n m : ℕ} → IsNew x xs → StandsIn ys x m → n ≡ length xs + m
    → StandsIn (xs ++ ys) x n
behind xs ys {x = x} {n = n} {m = m} new s e = record {
  is = get_past xs ys n m x e s.is;
  first = omega (arith, position_past (same_label x) xs ys new, s.first, e);
}

pub stands_at : (xs : List Label) (x : Label) (n : ℕ) → slice_get xs n ≡ Some x → same_label x x ≡ true
    → ((k : ℕ) (y : Label) → k < n → slice_get xs k ≡ Some y → same_label x y ≡ false) → StandsIn xs x n
stands_at xs x n is same apart =
    let low = slice_get_within xs n x is in
    record {
      is = is;
      first = position_or_len_is (same_label x) xs n x (omega (arith, low))
          (λ k l. apart k (get_or xs k x) l (slice_get-get_or xs k x (omega (arith, l, low))))
          (λ l. ap (same_label x) (get_or_from_slice_get xs n x x is) ∙ same);
    }

-- each of a list with its number, by which it is told
module _ (f : ℕ → Label) (word : ℕ) (tells : (v : ℕ) → same_label (f word) (f v) ≡ (word == v)) where
  pub stands_in_range : (from count n : ℕ) → from + n ≡ word → n < count
      → StandsIn (map f (range_with_len from count)) (f word) n
  stands_in_range from count n here low =
      stands_at (map f (range_with_len from count)) (f word) n (rw here at (range_get f from count n low))
      (tells word ∙ eq-eqb word word refl) (λ k y l e.
      let is = same_Some y _ (sym e ∙ range_get f from count k (omega (arith, l, low))) in
      rw (is, tells (from + k)) (ne_eqb word (from + k) (λ q. omega (arith, q, l, here))))

  pub stands_below : (count : ℕ) → word < count → StandsIn (map f (below count)) (f word) word
  stands_below count low = rw (below_range count) (stands_in_range 0 count word (omega arith) low)

-- in the lists of items
pub stands_in_all : {A : Type 0} (f : A → List Label) (size : A → ℕ) (xs : List A) → Sized f size xs → (k : ℕ) (a : A)
    → slice_get xs k ≡ Some a → (x : Label) (m : ℕ) → StandsIn (f a) x m
    → ((j : ℕ) (c : A) → j < k → slice_get xs j ≡ Some c → IsNew x (f c))
    → StandsIn (flat_map f xs) x (sum_by size (take k xs) + m)
stands_in_all f size [] sized k a e x m s new = absurd (cc)
stands_in_all f size (c ∷ xs) sized zero a e x m s new =
    let same : c ≡ a = cc in rw (zero-add m, same) (before _ _ s)
stands_in_all f size (c ∷ xs) sized (suc k) a e x m s new =
    behind _ _ (new 0 c (omega arith) refl)
    (stands_in_all f size xs (λ j. sized (suc j)) k a e x m s (λ j d l. new (suc j) d (omega (arith, l))))
    (omega (arith, sized 0 c refl, sum_by-cons size c (take k xs)))

-- ---- one that is found in a range

pub found_within : (p : ℕ → Bool) (a n word : ℕ) → find p (range_with_len a n) ≡ Some word → (a ≤ word) × (word < a + n)
found_within p a n word e =
    let xs = range_with_len a n in
    let k = position_or_len p xs in
    let at : slice_get xs k ≡ Some word = sym (find_at p xs) ∙ e in
    let low : k < n = omega (arith, slice_get_within xs k word at, length-range_with_len a n) in
    omega (arith, low, get_or-range_with_len a n k word low, get_or_from_slice_get xs k word word at)

pub record IsFoundIn (p : ℕ → Bool) (from count word : ℕ) : Type 0 where
  pub is : find p (range_with_len from count) ≡ Some word
  pub above : from ≤ word
  pub below : word < from + count
  pub passes : p word ≡ true

pub found_in_range : (p : ℕ → Bool) (from count : ℕ) → (n : ℕ) → n < count → p (from + n) ≡ true
    → (word : ℕ) × IsFoundIn p from count word
found_in_range p from count n l h =
    let xs = range_with_len from count in
    let many = length-range_with_len from count in
    let found = placed p xs (list_any_at p xs n 0 (omega (arith, l, many))
    (ap p (get_or-range_with_len from count n 0 l) ∙ h)) in
    let inside = found_within p from count found.item found.first in
    (found.item, record { is = found.first; above = inside.0; below = inside.1; passes = found.passes })

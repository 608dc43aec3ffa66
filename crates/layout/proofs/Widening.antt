-- Widening only grows, so that every way of widening ends at the same forms.
use Rattle.layout.proofs.Common.{◌≡◌, ℕ, zero, suc, ◌+◌, ◌-◌, ◌<◌, ◌≤◌, ◌⊎◌, inl, inr, Bool, true, List, slice_get, Option, Some, None, refl, ap, arith, nat_tests, cases_lt, Entry, Forms, goal_of, width, offset, far, far_from, out_of_reach, IsWidened, IsWidening, IsWithin}

-- a long entry has no fewer words
pub wider : (x next : Option Entry) (a b : Bool) → (a ≡ true → b ≡ true) → width a x next ≤ width b x next
wider x next a b h = grind arith

pub offset_more : (entries : List Entry) (long : Forms) (n : ℕ) → offset entries long (suc n)
    ≡ offset entries long n + width (long n) (slice_get entries n) (slice_get entries (suc n))
unfolding offset
offset_more entries long n = refl

pub add_more : (a n : ℕ) → a + suc n ≡ suc (a + n)
add_more a n = omega arith

-- the words between two entries don't get fewer
pub grows : (entries : List Entry) (long other : Forms) → IsWithin long other → (a n : ℕ)
    → offset entries long (a + n) + offset entries other a ≤ offset entries other (a + n) + offset entries long a
grows entries long other h a zero = let e : a + 0 ≡ a = omega arith in rw e (omega arith)
grows entries long other h a (suc n) =
    let w = wider (slice_get entries (a + n)) (slice_get entries (suc (a + n))) (long (a + n)) (other (a + n)) (h (a +
    n)) in
    rw (add_more a n) (omega (
      arith,
      grows entries long other h a n,
      w,
      offset_more entries long
          (a + n),
      offset_more entries other (a + n),
    ))

pub grows_to : (entries : List Entry) (long other : Forms) → IsWithin long other → (a b : ℕ) → a ≤ b
    → offset entries long b + offset entries other a ≤ offset entries other b + offset entries long a
grows_to entries long other h a b l =
    let e : a + (b - a) ≡ b = omega arith in
    rw e at (grows entries long other h a (b - a))

-- a number that doesn't get less
pub rises_by : (f : ℕ → ℕ) → ((n : ℕ) → f n ≤ f (suc n)) → (a n : ℕ) → f a ≤ f (a + n)
rises_by f up a zero = let e : f a ≡ f (a + 0) = ap f (omega arith) in omega (arith, e)
rises_by f up a (suc n) = rw (add_more a n) (omega (arith, rises_by f up a n, up (a + n)))

pub rises_to : (f : ℕ → ℕ) → ((n : ℕ) → f n ≤ f (suc n)) → (a b : ℕ) → a ≤ b → f a ≤ f b
rises_to f up a b l = let e : a + (b - a) ≡ b = omega arith in rw e at (rises_by f up a (b - a))

pub rises : (entries : List Entry) (long : Forms) (a b : ℕ) → a ≤ b → offset entries long a ≤ offset entries long b
rises entries long = rises_to (offset entries long) (λ n. omega (arith, offset_more entries long n))

further_up : (a b c d : ℕ) → a ≤ b → b + c ≤ d + a → far a b ≡ true → far c d ≡ true
further_up a b c d l m h = grind (arith, nat_tests)

further_down : (a b c d : ℕ) → b ≤ a → a + d ≤ c + b → far a b ≡ true → far c d ≡ true
further_down a b c d l m h = grind (arith, nat_tests)

-- what is out of reach stays so when more are long
pub stays_far : (entries : List Entry) (long other : Forms) → IsWithin long other → (n : ℕ)
    → out_of_reach entries long n ≡ true → out_of_reach entries other n ≡ true
stays_far entries long other h n e = at (goal_of entries n) e
  where
    way : (m : ℕ) → (n < m) ⊎ (m ≤ n) → far (offset entries long n) (offset entries long m) ≡ true
        → far (offset entries other n) (offset entries other m) ≡ true
    way m (inl l) f = further_up (offset entries long n) (offset entries long m) (offset entries other n) (offset
        entries other m) (rises entries long n m (omega arith)) (grows_to entries long other h n m (omega arith)) f
    way m (inr l) f = further_down (offset entries long n) (offset entries long m) (offset entries other n) (offset
        entries other m) (rises entries long m n l) (grows_to entries long other h m n l) f

    at : (o : Option ℕ) → far_from entries long n o ≡ true → far_from entries other n o ≡ true
    at None f = f
    at (Some m) f = way m (cases_lt n m) f

-- Any of those that are out of reach may be widened.
pub widening_more : (entries : List Entry) (long more : Forms) → IsWidening entries long
    → IsWithin long more → ((n : ℕ) → more n ≡ true → (long n ≡ true) ⊎ (out_of_reach entries long n ≡ true))
    → IsWidening entries more
widening_more entries long more h grown new = record {
  needed = λ n e. elim (new n e) [
    | inl l ↦ stays_far entries long more grown n (h.needed n l)
    | inr f ↦ stays_far entries long more grown n f
  ];
  fewest = λ other o n e. elim (new n e) [
    | inl l ↦ h.fewest other o n l
    | inr f ↦ o n (stays_far entries long other (h.fewest other o) n f)
  ];
}

either : (a b : Bool) → (a ≡ true → b ≡ true) → (b ≡ true → a ≡ true) → a ≡ b
either a b f g = grind arith

-- The least forms are one: no way of widening ends elsewhere.
pub widened_once : (entries : List Entry) (long other : Forms) → IsWidened entries long → IsWidened entries other
    → (n : ℕ) → long n ≡ other n
widened_once entries long other a b n = either (long n) (other n) (a.fewest other b.none_left n) (b.fewest long
    a.none_left n)

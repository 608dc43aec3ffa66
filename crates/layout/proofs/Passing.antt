-- Passes that widen what is out of reach.
use Rattle.layout.proofs.Common.{◌≡◌, ℕ, zero, suc, ◌+◌, ◌-◌, ◌<◌, ◌≤◌, ◌^◌, ◌⊎◌, inl, inr, Bool, true, false, cond, not, ◌&&◌, List, ◌∷◌, length, get_or, set, replicate, count_by, slice_get, Option, Some, None, IfSome, refl, ap, sym, subst, ◌∙◌, add-one, arith, if◌then◌else◌, slice_index, option_map, nat_tests, cases_eq, cases_lt, false≢true, count_by-le-length, sum_by-set, slice_get_past, length-set, get_or-set_other, get_or-set_same, Entry, Forms, start_of, target, far, far_from, out_of_reach, offset, width, IsWidened, beyond, beyond_of, far_of, forms_in, goal_in, noted, widens, IsFormed, IsListing, IsOffsets, IsPassed, IsWidening}
use Rattle.layout.specs.declared.entries.Entry.TheVariants as en
use Rattle.layout.proofs.Offsets.{AreOffsets, all_offsets, noted_len, offset_same, offsets_more}
use Rattle.layout.proofs.Widening.{add_more, offset_more, rises, wider, widening_more}
use Rattle.layout.proofs.Walked.{goal_low, reach_is, turn, walk_more, IsWalk}

-- past the entries none is out of reach
not_far : (entries : List Entry) (long : Forms) (n : ℕ) → length entries ≤ n → out_of_reach entries long n ≡ false
not_far entries long n l =
    ap (λ (o : Option Entry). far_from entries long n (option_map (start_of entries) (target o))) (slice_get_past
    entries n l)

-- ---- where it begins, and where it ends

none_in : (n k : ℕ) → get_or (replicate n false) k false ≡ false
none_in zero k = refl
none_in (suc n) zero = refl
none_in (suc n) (suc k) = none_in n k

pub widening_none : (entries : List Entry) (n : ℕ) → IsWidening entries (forms_in (replicate n false))
widening_none entries n = record {
  needed = λ k e. absurd (false≢true (sym (none_in n k) ∙ e));
  fewest = λ other o k e. absurd (false≢true (sym (none_in n k) ∙ e));
}

widened_by : (entries : List Entry) (long : Forms) → IsWidening entries long
    → ((n : ℕ) → out_of_reach entries long n ≡ true → long n ≡ true) → IsWidened entries long
widened_by entries long h none = record { none_left = none; needed = h.needed; fewest = h.fewest }

-- where there are few words, none is out of reach
near : (from : ℕ) (to : Option ℕ) → from < 2 ^ 21 → IfSome to (λ n. n < 2 ^ 21) → far_of from to ≡ false
near from None f t = refl
near from (Some to) f t = grind (arith, nat_tests)

module _ (entries : List Entry) (forms : List Bool) (at : List ℕ) (all : ℕ) (offsets : IsOffsets entries (forms_in forms) at)
    (whole : all ≡ offset entries (forms_in forms) (length entries)) (few : all < 2 ^ 21) where
  near_at : (n : ℕ) → n < length entries → (x : Option Entry) → slice_get entries n ≡ x
      → out_of_reach entries (forms_in forms) n ≡ false
  near_at n l None is = ap (λ (o : Option Entry). far_from entries (forms_in forms) n (option_map (start_of entries)
      (target o))) is
  near_at n l (Some x) is =
      let low = rises entries (forms_in forms) n (length entries) (omega (arith, l)) in
      sym (reach_is entries (forms_in forms) at offsets n x is _ refl)
      ∙ near _ _ (omega (arith, low, whole, few))
      (goal_low entries (forms_in forms) at offsets n x is (λ (to : ℕ). to < 2 ^ 21) (λ m h. omega (arith, h, whole, few)))

  none_far : (n : ℕ) → out_of_reach entries (forms_in forms) n ≡ false
  none_far n = elim (cases_lt n (length entries)) [
    | inl l ↦ near_at n l (slice_get entries n) refl
    | inr l ↦ not_far entries (forms_in forms) n l
  ]

  -- so that the forms are the least
  pub widening_few : length forms ≡ length entries → IsWidening entries (forms_in forms) → IsFormed entries forms at all
  widening_few e w = record {
    len = e;
    widened = widened_by entries (forms_in forms) w (λ n far. absurd (false≢true (sym (none_far n) ∙ far)));
    offsets = offsets;
    whole = whole;
  }

-- ---- the words before an entry, where others change

offset_past : (entries : List Entry) (long other : Forms) (n : ℕ) → ((k : ℕ) → n ≤ k → long k ≡ other k) → (m : ℕ)
    → offset entries other (n + m) + offset entries long n ≡ offset entries long (n + m) + offset entries other n
offset_past entries long other n h zero = let e : n + 0 ≡ n = omega arith in rw e (omega arith)
offset_past entries long other n h (suc m) =
    let own = ap (λ (b : Bool). width b (slice_get entries (n + m)) (slice_get entries (suc (n + m)))) (h (n + m) (omega
    arith)) in
    rw (add_more n m) (omega (
      arith,
      offset_past entries long other n h m,
      offset_more entries long (n + m),
      offset_more entries other (n + m),
      own,
    ))

module _ (entries : List Entry) (forms : List Bool) (n : ℕ) (inside : n < length forms)
    (short : get_or forms n false ≡ false) where
  abbrev wide : List Bool
  wide = set forms n true

  others : (k : ℕ) → (k ≡ n → ⊥) → forms_in forms k ≡ forms_in wide k
  others k d = sym (get_or-set_other forms n k true false d)

  own : forms_in wide n ≡ true
  own = get_or-set_same forms n true false inside

  up_to : (m : ℕ) → m ≤ n → offset entries (forms_in forms) m ≡ offset entries (forms_in wide) m
  up_to m l = offset_same entries (forms_in forms) (forms_in wide) m (λ k h. others k (λ e. omega (arith, e, h, l)))

  past : (m : ℕ) → suc n ≤ m → offset entries (forms_in wide) m + offset entries (forms_in forms) (suc n) ≡ offset entries
      (forms_in forms) m + offset entries (forms_in wide) (suc n)
  past m l =
      let e : suc n + (m - suc n) ≡ m = omega arith in
      rw e at (offset_past entries (forms_in forms) (forms_in wide) (suc n) (λ k h. others k (λ s. omega (arith, s, h)))
      (m - suc n))

  widening_one : IsWidening entries (forms_in forms) → out_of_reach entries (forms_in forms) n ≡ true
      → IsWidening entries (forms_in wide)
  widening_one h far = widening_more entries (forms_in forms) (forms_in wide) h
      (λ m e. elim (cases_eq m n) [ inl s ↦ ap (forms_in wide) s ∙ own | inr d ↦ sym (others m d) ∙ e ])
      (λ m e. elim (cases_eq m n) [ inl s ↦ inr (rw s far) | inr d ↦ inl (others m d ∙ e) ])

  count_one : count_by (λ b. b) wide ≡ count_by (λ b. b) forms + 1
  count_one =
      let both = rw short at (sum_by-set (λ (b : Bool). cond b 1 0) forms n true false inside) in omega (arith, both)

-- ---- in the middle of a pass

far_before : (before here words from : ℕ) → from ≡ here → words ≤ here → before ≤ here → beyond before here words ≡ true
    → far from words ≡ true
far_before before here words from e l m h = grind (arith, nat_tests)

far_behind : (before here words from to : ℕ) → from ≡ here → words + here ≡ to + before → from ≤ to → before ≤ here
    → beyond before here words ≡ true → far from to ≡ true
far_behind before here words from to e f l m h = grind (arith, nat_tests)

near_either : (here words from : ℕ) → from ≡ here → beyond here here words ≡ false → far from words ≡ false
near_either here words from e h = grind (arith, nat_tests)

long_or : (long far : Bool) → (not long && far) ≡ false → (long ≡ true) ⊎ (far ≡ false)
long_or true far e = inl refl
long_or false far e = inr e

is_new : (long far : Bool) → (not long && far) ≡ true → (long ≡ false) × (far ≡ true)
is_new true far e = absurd (false≢true e)
is_new false far e = (refl, e)

-- n entries have been passed, and so many of them widened
pub record IsPassing (entries : List Entry) (first forms : List Bool) (at : List ℕ) (left : List Entry)
    (n before here widened : ℕ) : Type 0 where
  pub len : length forms ≡ length entries
  pub walk : IsWalk entries (forms_in forms) left n here
  pub listing : IsListing entries (length at)
  pub passed : AreOffsets entries (forms_in forms) at n
  pub ahead : (k : ℕ) → k < length at → n ≤ start_of entries k
      → slice_index at k + here ≡ offset entries (forms_in forms) (start_of entries k) + before
  pub less : before ≤ here
  pub widening : IsWidening entries (forms_in forms)
  pub count : count_by (λ b. b) forms ≡ count_by (λ b. b) first + widened
  pub none : widened ≡ 0
      → (before ≡ here) × ((k : ℕ) → k < n → out_of_reach entries (forms_in forms) k ≡ true → forms_in forms k ≡ true)

pub passing_none : (entries : List Entry) (forms : List Bool) (at : List ℕ) (left : List Entry)
    → length forms ≡ length entries → IsWalk entries (forms_in forms) left 0 0 → IsListing entries (length at)
    → IsOffsets entries (forms_in forms) at → IsWidening entries (forms_in forms)
    → IsPassing entries forms forms at left 0 0 0 0
passing_none entries forms at left e walk listing offsets widening = record {
  len = e;
  walk = walk;
  listing = listing;
  passed = λ k l m. absurd (omega (arith, m));
  ahead = λ k l m. let same = offsets.each k l in omega (arith, same);
  less = omega arith;
  widening = widening;
  count = omega arith;
  none = λ _. (refl, λ k l. absurd (omega (arith, l)));
}

module _ (entries : List Entry) (first forms : List Bool) (at : List ℕ) (left later : List Entry) (n before here widened : ℕ)
    (x : Entry) (h : IsPassing entries first forms at left n before here widened) (taken : left ≡ x ∷ later) where
  is : slice_get entries n ≡ Some x
  is = (turn entries left later n x h.walk.rest taken).entry

  inside : n < length forms
  inside = let t = turn entries left later n x h.walk.rest taken in omega (arith, h.len, t.inside)

  pub leads : IfSome (target (Some x)) (λ k. k < length at)
  leads = rw is at (h.listing.targets n)

  -- where it leads, as it is now
  there : (k : ℕ) → k < length at → ((start_of entries k < n) × (slice_index at k ≡ offset entries (forms_in forms)
      (start_of entries k)) × (slice_index at k ≤ here)) ⊎ ((here ≤ offset entries (forms_in forms) (start_of entries k))
      × (slice_index at k + here ≡ offset entries (forms_in forms) (start_of entries k) + before))
  there k l = elim (cases_lt (start_of entries k) n) [
    | inl m ↦
        let r = rises entries (forms_in forms) (start_of entries k) n (omega (arith, m)) in
        let same = h.passed k l m in
        inl (m, same, omega (arith, r, same, h.walk.words))
    | inr m ↦
        let r = rises entries (forms_in forms) n (start_of entries k) m in
        inr (omega (arith, r, h.walk.words), h.ahead k l m)
  ]

  -- the words before it are few, now and then
  pub few_words : (limit : ℕ) → offset entries (forms_in forms) (length entries) < limit
      → IfSome (goal_in at x) (λ words. words < limit)
  few_words limit low = go (target (Some x)) leads
    where
      go : (o : Option ℕ) → IfSome o (λ k. k < length at) → IfSome (option_map (slice_index at) o) (λ words. words < limit)
      go None l = tt
      go (Some k) l =
          let r = rises entries (forms_in forms) (start_of entries k) (length entries) (let i = h.listing.inside k l in omega (arith, i)) in
          elim (there k l) [
            | inl t ↦ omega (arith, t.1, r, low)
            | inr t ↦ omega (arith, t.1, r, low, h.less)
          ]

  is_out : beyond_of before here (goal_in at x) ≡ true → out_of_reach entries (forms_in forms) n ≡ true
  is_out e = rw is (go (target (Some x)) leads e)
    where
      go : (o : Option ℕ) → IfSome o (λ k. k < length at) → beyond_of before here (option_map (slice_index at) o) ≡ true
          → far_from entries (forms_in forms) n (option_map (start_of entries) o) ≡ true
      go None l e = absurd (false≢true e)
      go (Some k) l e = elim (there k l) [
        | inl t ↦ rw (← t.1) (far_before before here (slice_index at k) _ (sym h.walk.words) t.2 h.less e)
        | inr t ↦ far_behind before here (slice_index at k) _ _ (sym h.walk.words) t.1 (omega (arith, t.0, h.walk.words)) h.less e
      ]

  within_reach : widened ≡ 0 → beyond_of before here (goal_in at x) ≡ false → out_of_reach entries (forms_in forms) n ≡ false
  within_reach none e = rw is (go (target (Some x)) leads (rw (h.none none).0 at e))
    where
      go : (o : Option ℕ) → IfSome o (λ k. k < length at) → beyond_of here here (option_map (slice_index at) o) ≡ false
          → far_from entries (forms_in forms) n (option_map (start_of entries) o) ≡ false
      go None l e = refl
      go (Some k) l e =
          let same : slice_index at k ≡ offset entries (forms_in forms) (start_of entries k) = elim (there k l) [
            | inl t ↦ t.1
            | inr t ↦ omega (arith, t.1, (h.none none).0)
          ] in
          rw (← same) (near_either here (slice_index at k) _ (sym h.walk.words) e)

  -- noting a start changes nothing behind it
  noted_ahead : (y : Entry) → slice_get entries n ≡ Some y → (k : ℕ) → k < length at → suc n ≤ start_of entries k
      → slice_index (noted at y here) k ≡ slice_index at k
  noted_ahead (en.Item item) e k l m = refl
  noted_ahead (en.Start j) e k l m =
      let start = (h.listing.starts n j.0 e).1 in
      get_or-set_other at j.0 k here 0 (λ s. let same = ap (start_of entries) s in omega (arith, same, start, m))

  passing_more : (b : Bool) → widens before here (goal_in at x) (forms_in forms n) ≡ b → (was w : ℕ)
      → was ≡ width (forms_in forms n) (Some x) (slice_get later 0)
      → w ≡ width (forms_in (if b then set forms n true else forms) n) (Some x) (slice_get later 0)
      → IsPassing entries first (if b then set forms n true else forms) (noted at x here) later (n + 1) (before + was)
      (here + w) (widened + (if b then 1 else 0))
  passing_more false e was w a b = record {
    len = h.len;
    walk = walk_more _ _ _ _ _ _ _ _ h.walk taken b;
    listing = rw (noted_len at x here) h.listing;
    passed = offsets_more _ _ _ _ _ _ h.listing is h.walk.words h.passed;
    ahead = λ k l m.
        let l' : k < length at = rw (noted_len at x here) at l in
        let same = noted_ahead x is k l' (omega (arith, m)) in
        let old = h.ahead k l' (omega (arith, m)) in
        omega (arith, same, old, a, b);
    less = omega (arith, h.less, a, b);
    widening = h.widening;
    count = omega (arith, h.count);
    none = λ none.
        let z : widened ≡ 0 = omega (arith, none) in (
          omega (arith, (h.none z).0, a, b),
          λ k l far. elim (cases_eq k n) [
            | inl s ↦ elim (long_or (forms_in forms n) _ e) [
              | inl t ↦ rw s t
              | inr f ↦ absurd (false≢true (sym (within_reach z f) ∙ rw s at far))
            ]
            | inr d ↦ (h.none z).1 k (omega (arith, l, d)) far
          ],
        );
  }
  passing_more true e was w a b =
      let wide = set forms n true in
      let short = (is_new (forms_in forms n) _ e).0 in
      let here_wide = h.walk.words ∙ up_to entries forms n inside short n (omega arith) in
      let old_walk = walk_more entries left later (forms_in forms) n here was x h.walk taken a in
      let walk = walk_more entries left later (forms_in wide) n here w x (record { rest = h.walk.rest; words = here_wide })
      taken b in
      record {
        len = length-set forms n true ∙ h.len;
        walk = walk;
        listing = rw (noted_len at x here) h.listing;
        passed = offsets_more _ _ _ _ _ _ h.listing is here_wide
            (λ k l m. h.passed k l m ∙ up_to entries forms n inside short (start_of entries k) (omega (arith, m)));
        ahead = λ k l m.
            let l' : k < length at = rw (noted_len at x here) at l in
            let m' : suc n ≤ start_of entries k = omega (arith, m) in
            let same = noted_ahead x is k l' m' in
            let old = h.ahead k l' (omega (arith, m)) in
            let apart = past entries forms n inside short (start_of entries k) m' in
            let was_there = rw add-one at old_walk.words in
            let is_there = rw add-one at walk.words in
            omega (arith, same, old, apart, was_there, is_there);
        less =
            let more = wider (Some x) (slice_get later 0) (forms_in forms n) (forms_in wide n)
            (λ _. own entries forms n inside short) in
            omega (arith, h.less, a, b, more);
        widening = widening_one entries forms n inside short h.widening (is_out (is_new (forms_in forms n) _ e).1);
        count = let one = count_one entries forms n inside short in omega (arith, h.count, one);
        none = λ none. absurd (omega (arith, none));
      }

  pub passing_turn : (later_forms : List Bool) (more was w : ℕ)
      → later_forms ≡ (if widens before here (goal_in at x) (forms_in forms n) then set forms n true else forms)
      → more ≡ (if widens before here (goal_in at x) (forms_in forms n) then 1 else 0)
      → was ≡ width (forms_in forms n) (Some x) (slice_get later 0)
      → w ≡ width (forms_in later_forms n) (Some x) (slice_get later 0)
      → IsPassing entries first later_forms (noted at x here) later (n + 1) (before + was) (here + w) (widened + more)
  passing_turn later_forms more was w e f a b =
      rw (e, f) (passing_more (widens before here (goal_in at x) (forms_in forms n)) refl was w a
      (subst (λ (fs : List Bool). w ≡ width (forms_in fs n) (Some x) (slice_get later 0)) e b))

-- ---- a whole pass

pub passing_all : (entries : List Entry) (first forms : List Bool) (at : List ℕ) (left : List Entry)
    (n before here widened : ℕ) → IsPassing entries first forms at left n before here widened → n ≡ length entries
    → length first ≡ length entries → IsPassed entries first forms at here widened
passing_all entries first forms at left n before here widened h e len = record {
  len = h.len ∙ sym len;
  count = h.count;
  offsets = all_offsets entries (forms_in forms) at n h.listing e h.passed;
  widening = h.widening;
  last = λ z. record {
    len = h.len;
    widened = widened_by entries (forms_in forms) h.widening (λ k far. elim (cases_lt k n) [
      | inl l ↦ (h.none z).1 k l far
      | inr l ↦ absurd (false≢true (sym (not_far entries (forms_in forms) k (omega (arith, e, l))) ∙ far))
    ]);
    offsets = all_offsets entries (forms_in forms) at n h.listing e h.passed;
    whole = h.walk.words ∙ ap (offset entries (forms_in forms)) e;
  };
}

-- one that widens some leaves fewer
pub pass_smaller : (forms wide : List Bool) (count widened : ℕ) → length forms ≡ count → length wide ≡ length forms
    → count_by (λ b. b) wide ≡ count_by (λ b. b) forms + widened → (widened ≡ 0 → ⊥)
    → count - count_by (λ b. b) wide < count - count_by (λ b. b) forms
pass_smaller forms wide count widened e f more some =
    let few = count_by-le-length (λ (b : Bool). b) wide in omega (arith, e, f, more, some, few)

-- Entries are taken one after the other.
use Rattle.layout.proofs.Common.{◌≡◌, ℕ, zero, suc, ◌+◌, ◌^◌, ◌<◌, ◌≤◌, false, List, [], ◌∷◌, length, drop, slice_get, slice_index, Option, Some, None, IfSome, refl, ap, sym, ◌∙◌, add-one, arith, option_map, drop-length, length-drop, Entry, Forms, far_from, goal_of, out_of_reach, offset, start_of, target, width, NoneLeft, code_at, entry_code, far_of, goal_in, or_zero, target_offset, IsOffsets}
use Rattle.layout.proofs.Offsets.{offset_next, offset_none, offset_small}
use Rattle.layout.proofs.Widening.{rises}
use Rattle.layout.proofs.Emitted.{near_enough}

-- the entry that is taken, and what is behind it
pub record IsTurn (entries : List Entry) (n : ℕ) (x : Entry) (later : List Entry) : Type 0 where
  pub inside : n < length entries
  pub entry : slice_get entries n ≡ Some x
  pub behind : slice_get later 0 ≡ slice_get entries (suc n)
  pub rest : later ≡ drop (suc n) entries

pub turn : (entries left later : List Entry) (n : ℕ) (x : Entry) → left ≡ drop n entries → left ≡ x ∷ later
    → IsTurn entries n x later
turn entries left later n x at e = go entries n (sym at ∙ e)
  where
    go : (entries : List Entry) (n : ℕ) → drop n entries ≡ x ∷ later → IsTurn entries n x later
    go [] zero e = absurd (cc)
    go [] (suc n) e = absurd (cc)
    go (y ∷ ys) zero e =
        let same : ys ≡ later = cc in
        record { inside = omega arith; entry = cc e; behind = cc (same); rest = sym same }
    go (y ∷ ys) (suc n) e =
        let h = go ys n e in
        record { inside = omega (arith, h.inside); entry = h.entry; behind = h.behind; rest = h.rest }

-- what is left behind n entries, which take `here` words
pub record IsWalk (entries : List Entry) (long : Forms) (left : List Entry) (n here : ℕ) : Type 0 where
  pub rest : left ≡ drop n entries
  pub words : here ≡ offset entries long n

pub walk_none : (entries left : List Entry) (long : Forms) → left ≡ entries → IsWalk entries long left 0 0
walk_none entries left long e = record { rest = e; words = sym (offset_none entries long) }

pub walk_more : (entries left later : List Entry) (long : Forms) (n here w : ℕ) (x : Entry)
    → IsWalk entries long left n here → left ≡ x ∷ later → w ≡ width (long n) (Some x) (slice_get later 0)
    → IsWalk entries long later (n + 1) (here + w)
walk_more entries left later long n here w x h e v =
    let t = turn entries left later n x h.rest e in
    record {
      rest = rw add-one t.rest;
      words = offset_next entries long n here w h.words (rw add-one (cc (v, t.entry, t.behind)));
    }

-- and few of them
pub walk_low : (entries left : List Entry) (long : Forms) (n here : ℕ) → IsWalk entries long left n here
    → n < length entries → length entries ≤ 2 ^ 42 → here + 6 < 2 ^ 62
walk_low entries left long n here h l few = let s = offset_small entries long n in omega (arith, s, h.words, l, few)

pub walk_end : (entries left : List Entry) (long : Forms) (n here : ℕ) → IsWalk entries long left n here
    → n ≡ length entries → left ≡ []
walk_end entries left long n here h e = h.rest ∙ rw e (drop-length entries)

pub more_left : (entries left : List Entry) (n : ℕ) → left ≡ drop n entries → n < length entries → 0 < length left
more_left entries left n e l = let d = length-drop n entries in omega (arith, ap length e, d)

-- ---- where entries lead

module _ (entries : List Entry) (long : Forms) (at : List ℕ) (offsets : IsOffsets entries long at) (n : ℕ) (x : Entry)
    (is : slice_get entries n ≡ Some x) where
  pub leads_inside : IfSome (target (Some x)) (λ k. k < length at)
  leads_inside = rw is at (offsets.targets n)

  same_goal : (o : Option ℕ) → IfSome o (λ k. k < length at)
      → option_map (slice_index at) o ≡ option_map (offset entries long) (option_map (start_of entries) o)
  same_goal None l = refl
  same_goal (Some k) l = ap (λ (m : ℕ). Some m) (offsets.each k l)

  pub goal_is : goal_in at x ≡ target_offset entries long n
  goal_is = rw is (same_goal (target (Some x)) leads_inside)

  low_goal : (P : ℕ → Type 0) → ((m : ℕ) → m ≤ offset entries long (length entries) → P m) → (o : Option ℕ)
      → IfSome o (λ k. k < length at) → IfSome (option_map (slice_index at) o) P
  low_goal P h None l = tt
  low_goal P h (Some k) l =
      let r = rises entries long (start_of entries k) (length entries) (omega (arith, offsets.inside k l)) in
      h (slice_index at k) (omega (arith, r, offsets.each k l))

  pub goal_low : (P : ℕ → Type 0) → ((m : ℕ) → m ≤ offset entries long (length entries) → P m) → IfSome (goal_in at x) P
  goal_low P h = low_goal P h (target (Some x)) leads_inside

  far_is : (o : Option ℕ) → far_of (offset entries long n) (option_map (offset entries long) o) ≡ far_from entries long
      n o
  far_is None = refl
  far_is (Some m) = refl

  pub reach_is : (here : ℕ) → here ≡ offset entries long n → far_of here (goal_in at x) ≡ out_of_reach entries long n
  reach_is here e = rw (e, goal_is) (far_is (goal_of entries n))

  pub goal_near : (here : ℕ) → here ≡ offset entries long n → NoneLeft entries long → long n ≡ false
      → far_of here (goal_in at x) ≡ false
  goal_near here e none short = rw (e, goal_is) (near_enough entries long n none short)

  pub code_is : (base here : ℕ) (next : Option Entry) → here ≡ offset entries long n → next ≡ slice_get entries (suc n)
      → entry_code base (long n) here (or_zero (goal_in at x)) (Some x) next ≡ code_at base entries long n
  code_is base here next e f = cc (e, f, goal_is, is)

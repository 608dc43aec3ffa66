-- The picked registers are different, and as many as are wanted.
use Rattle.std.proofs.Common.{◌≡◌, ◌≢◌, ℕ, zero, suc, ◌+◌, ◌-◌, ◌<◌, ◌≤◌, ◌⊎◌, inl, inr, Bool, true, false, not, ◌&&◌, ◌||◌, List, [], ◌∷◌, ◌++◌, length, refl, ap, sym, ◌∙◌, subst, arith, length-append, length-take}
use Rattle.std.specs.Prelude.{if◌then◌else◌, slice_index, filter}
use Rattle.std.proofs.lemmas.Bool.{and_parts, cases_lt, cond_both, not-true}
use Rattle.std.proofs.lemmas.Bool.Decides.{nat_tests}
use Rattle.std.proofs.lemmas.List.{get_or-take, get_or_append_left, get_or-append-add}
use Rattle.v8_decode.specs.declared.Part.{Part}
use Rattle.v8_decode.specs.declared.Part.TheVariants as parts
use Rattle.v8_decode.specs.Parts.{has, is_same}
use Rattle.scavenge.specs.Picks.{registers, spills}
use Rattle.scavenge.specs.Code.{picked, register_count, ArePicked}

-- ---- ascending lists
abbrev pub Ascends : ℕ → List ℕ → Type 0
Ascends lo [] = Unit {0}
Ascends lo (x ∷ xs) = (lo < x) × (x < 32) × Ascends x xs

-- filtered, they ascend, and pass the test
abbrev Passing : (ℕ → Bool) → ℕ → List ℕ → Type 0
Passing p lo [] = Unit {0}
Passing p lo (x ∷ xs) = (lo < x) × (x < 32) × (p x ≡ true) × Passing p x xs

passing_more : (p : ℕ → Bool) (lo x : ℕ) (xs : List ℕ) → lo ≤ x → Passing p x xs → Passing p lo xs
passing_more p lo x [] l h = tt
passing_more p lo x (y ∷ ys) l h = (let a = h.0 in omega arith, h.1, h.2, h.3)

filtered : (p : ℕ → Bool) (lo : ℕ) (xs : List ℕ) → Ascends lo xs → Passing p lo (filter p xs)
filtered p lo [] h = tt
filtered p lo (x ∷ xs) h = cond_both (p x) (x ∷ filter p xs) (filter p xs) (Passing p lo)
    (λ e. (h.0, h.1, e, filtered p x xs h.2))
    (λ e. passing_more p lo x (filter p xs) (let a = h.0 in omega arith) (filtered p x xs h.2))

passing_at : (p : ℕ → Bool) (lo : ℕ) (xs : List ℕ) (k : ℕ) → Passing p lo xs → k < length xs
    → (lo < slice_index xs k) × (slice_index xs k < 32) × (p (slice_index xs k) ≡ true)
passing_at p lo [] k h l = absurd (omega arith)
passing_at p lo (x ∷ xs) zero h l = (h.0, h.1, h.2)
passing_at p lo (x ∷ xs) (suc k) h l = let r =
    passing_at p x xs k h.3 (omega arith) in (let a = r.0 in let b = h.0 in omega arith, r.1, r.2)

ascends_at : (p : ℕ → Bool) (lo : ℕ) (xs : List ℕ) (j k : ℕ) → Passing p lo xs → j < k → k < length xs
    → slice_index xs j < slice_index xs k
ascends_at p lo [] j k h l m = absurd (omega arith)
ascends_at p lo (x ∷ xs) j zero h l m = absurd (omega arith)
ascends_at p lo (x ∷ xs) zero (suc k) h l m = (passing_at p x xs k h.3 (omega arith)).0
ascends_at p lo (x ∷ xs) (suc j) (suc k) h l m = ascends_at p x xs j k h.3 (omega arith) (omega arith)

-- ---- how many there are
pub joined : (p q : ℕ → Bool) (xs : List ℕ)
    → length (filter (λ r. p r && q r) xs) + length (filter (λ r. not (p r) && q r) xs) ≡ length (filter q xs)
joined p q [] = refl
joined p q (x ∷ xs) = go (p x) (q x) (joined p q xs)
  where
    go : (a b : Bool)
        → length (filter (λ r. p r && q r) xs) + length (filter (λ r. not (p r) && q r) xs) ≡ length (filter q xs)
        → length (if a && b then x ∷ filter (λ r. p r && q r) xs else filter (λ r. p r && q r) xs) + length
        (if not a && b then x ∷ filter (λ r. not (p r) && q r) xs else filter (λ r. not (p r) && q r) xs)
        ≡ length (if b then x ∷ filter q xs else filter q xs)
    go true true e = omega arith
    go true false e = e
    go false true e = omega arith
    go false false e = e

-- a part that isn't among them takes none off, and another one at most
abbrev Off : Part → (ℕ → Bool) → List ℕ → List ℕ
Off q f xs = filter (λ r. not (is_same (parts.Reg r) q || f r)) xs

differs : (x y : ℕ) (q : Part) → x < y → is_same (parts.Reg x) q ≡ true → is_same (parts.Reg y) q ≡ false
differs x y (parts.Reg z) l e = grind (arith, nat_tests)
differs x y parts.Icc l e = refl
differs x y parts.Y l e = refl

none_off : (q : Part) (f : ℕ → Bool) (x lo : ℕ) (xs : List ℕ) → x ≤ lo → Ascends lo xs
    → is_same (parts.Reg x) q ≡ true → length (filter (λ r. not (f r)) xs) ≡ length (Off q f xs)
none_off q f x lo [] l h e = refl
none_off q f x lo (y ∷ ys) l h e =
    go (is_same (parts.Reg y) q) (f y) (differs x y q (let a = h.0 in omega arith) e)
    (none_off q f x y ys (let a = h.0 in omega arith) h.2 e)
  where
    go : (a b : Bool) → a ≡ false → length (filter (λ r. not (f r)) ys) ≡ length (Off q f ys)
        → length (if not b then y ∷ filter (λ r. not (f r)) ys else filter (λ r. not (f r)) ys) ≡ length
        (if not (a || b) then y ∷ Off q f ys else Off q f ys)
    go true b g k = absurd (cc)
    go false true g k = k
    go false false g k = ap suc k

one_off : (q : Part) (f : ℕ → Bool) (lo : ℕ) (xs : List ℕ) → Ascends lo xs
    → length (filter (λ r. not (f r)) xs) ≤ length (Off q f xs) + 1
one_off q f lo [] h = omega arith
one_off q f lo (y ∷ ys) h =
    go (is_same (parts.Reg y) q) (f y) refl (one_off q f y ys h.2) (none_off q f y y ys (omega arith) h.2)
  where
    go : (a b : Bool) → is_same (parts.Reg y) q ≡ a → length (filter (λ r. not (f r)) ys) ≤ length (Off q f ys) + 1
        → (is_same (parts.Reg y) q ≡ true → length (filter (λ r. not (f r)) ys) ≡ length (Off q f ys))
        → length (if not b then y ∷ filter (λ r. not (f r)) ys else filter (λ r. not (f r)) ys) ≤ length
        (if not (a || b) then y ∷ Off q f ys else Off q f ys) + 1
    go true true e k m = k
    go true false e k m = let z = m e in omega arith
    go false true e k m = k
    go false false e k m = omega arith

pub all_off : (avoid : List Part) (lo : ℕ) (xs : List ℕ) → Ascends lo xs
    → length xs ≤ length (filter (λ r. not (has avoid (parts.Reg r))) xs) + register_count avoid
all_off [] lo xs h = none xs
  where
    none : (ys : List ℕ) → length ys ≤ length (filter (λ r. true) ys) + 0
    none [] = omega arith
    none (y ∷ ys) = let z = none ys in omega arith
all_off (parts.Reg n ∷ ps) lo xs h =
    let a = all_off ps lo xs h in
    let b = one_off (parts.Reg n) (λ r. has ps (parts.Reg r)) lo xs h in
    omega arith
all_off (parts.Icc ∷ ps) lo xs h = all_off ps lo xs h
all_off (parts.Y ∷ ps) lo xs h = all_off ps lo xs h

-- ---- the picked registers
pub registers_ascend : Ascends 0 registers
unfolding registers
registers_ascend = search arith

pub registers_count : length registers ≡ 31
unfolding registers
registers_count = refl

module _ (dead avoid : List Part) (want : ℕ) (few : register_count avoid ≤ 8) (low : want ≤ 5) where
  abbrev p : ℕ → Bool
  p r = has dead (parts.Reg r) && not (has avoid (parts.Reg r))

  abbrev q : ℕ → Bool
  q r = not (has dead (parts.Reg r)) && not (has avoid (parts.Reg r))

  abbrev xs : List ℕ
  xs = filter p registers

  abbrev ys : List ℕ
  ys = filter q registers

  enough : want ≤ length (filter p registers) + length (filter q registers)
  enough =
      let a = joined (λ r. has dead (parts.Reg r)) (λ r. not (has avoid (parts.Reg r))) registers in
      let b = all_off avoid 0 registers registers_ascend in
      let c = registers_count in
      omega arith

  -- each is one of the first list, or of the second
  in_first : (k : ℕ) → k < want → k < length xs → slice_index (picked dead avoid want) k ≡ slice_index xs k
  in_first k b l = get_or-take want (xs ++ ys) k 0 b ∙ get_or_append_left xs ys 0 k l

  in_second : (k : ℕ) → k < want → length xs ≤ k
      → slice_index (picked dead avoid want) k ≡ slice_index ys (k - length xs)
  in_second k b h =
      get_or-take want (xs ++ ys) k 0 b
      ∙ ap (slice_index (xs ++ ys)) (let e : k ≡ length xs + (k - length xs) = omega arith in e)
      ∙ get_or-append-add xs ys (k - length xs) 0

  firsts : (k : ℕ) → k < length xs → (0 < slice_index xs k) × (slice_index xs k < 32) × (p (slice_index xs k) ≡ true)
  firsts k l = passing_at p 0 xs k (filtered p 0 registers registers_ascend) l

  seconds : (k : ℕ) → k < length ys → (0 < slice_index ys k) × (slice_index ys k < 32) × (q (slice_index ys k) ≡ true)
  seconds k l = passing_at q 0 ys k (filtered q 0 registers registers_ascend) l

  -- what holds of both holds of each
  of_both : (P : ℕ → Type 0) → ((k : ℕ) → k < length xs → P (slice_index xs k))
      → ((k : ℕ) → k < length ys → P (slice_index ys k)) → (k : ℕ) → k < want → P (slice_index (picked dead avoid want) k)
  of_both P f g k b = elim (cases_lt k (length xs)) [
    | inl l ↦ subst P (sym (in_first k b l)) (f k l)
    | inr l ↦ let n = enough in subst P (sym (in_second k b l)) (g (k - length xs) (omega arith))
  ]

  differ_below : (j k : ℕ) → j < k → k < want
      → slice_index (picked dead avoid want) j ≢ slice_index (picked dead avoid want) k
  differ_below j k l b e = go (cases_lt j (length xs)) (cases_lt k (length xs))
    where
      go : (j < length xs) ⊎ (length xs ≤ j) → (k < length xs) ⊎ (length xs ≤ k) → ⊥
      go (inl h) (inl i) =
          let a = ascends_at p 0 xs j k (filtered p 0 registers registers_ascend) l i in
          let x = in_first j (omega arith) h in
          let y = in_first k b i in
          omega arith
      go (inl h) (inr i) =
          let all = enough in
          let same : slice_index xs j ≡ slice_index ys (k - length xs) = sym (in_first j (omega arith) h) ∙ e ∙ in_second k b i in
          let x : has dead (parts.Reg (slice_index xs j)) ≡ true = (and_parts _ _ (firsts j h).2).0 in
          let y : has dead (parts.Reg (slice_index ys (k - length xs))) ≡ false =
          not-true _ (and_parts _ _ (seconds (k - length xs) (omega arith)).2).0 in
          cc
      go (inr h) (inl i) = omega arith
      go (inr h) (inr i) =
          let all = enough in
          let a = ascends_at q 0 ys (j - length xs) (k - length xs) (filtered q 0 registers registers_ascend) (omega arith)
          (omega arith) in
          let x = in_second j (omega arith) h in
          let y = in_second k b i in
          omega arith

  differ_both : (j k : ℕ) → j < want → k < want → j ≢ k
      → slice_index (picked dead avoid want) j ≢ slice_index (picked dead avoid want) k
  differ_both j k a b ne = elim (cases_lt j k) [
    | inl l ↦ differ_below j k l b
    | inr l ↦ λ e. differ_below k j (omega arith) a (sym e)
  ]

  pub are_picked : ArePicked dead avoid want (picked dead avoid want) (spills dead avoid want)
  are_picked =
      let n = enough in
      record {
        count = omega (
          arith,
          length-take want (filter p registers ++ filter q registers),
          length-append (filter p registers) (filter q registers),
        );
        some = of_both (λ r. 0 < r) (λ k l. (firsts k l).0) (λ k l. (seconds k l).0);
        below = of_both (λ r. r < 32) (λ k l. (firsts k l).1) (λ k l. (seconds k l).1);
        differ = differ_both;
        unavoided = of_both (λ r. has avoid (parts.Reg r) ≡ false) (λ k l. not-true _ (and_parts _ _ (firsts k l).2).1)
            (λ k l. not-true _ (and_parts _ _ (seconds k l).2).1);
        dead_first = λ k l. subst (λ r. has dead (parts.Reg r) ≡ true) (sym (in_first k (omega arith) (omega arith)))
            (and_parts _ _ (firsts k (omega arith)).2).0;
        few = refl;
      }

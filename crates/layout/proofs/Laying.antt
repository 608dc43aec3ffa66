-- Pieces are laid one by one, each once.
use Rattle.layout.proofs.Common.{◌≡◌, ◌≢◌, ℕ, zero, suc, ◌+◌, ◌-◌, ◌<◌, ◌≤◌, inl, inr, Bool, true, false, not, ◌&&◌, ◌||◌, eqb, List, [], ◌∷◌, ◌++◌, length, get_or, set, slice_get, Option, Some, None, is_some, IfSome, ltb, replicate, refl, ap, sym, ◌∙◌, arith, All, IsDistinct, and_parts, cond_both, not-true, or_right, cases_lt, cases_eq, eqb-true, eq-eqb, cases_Bool, ltb-true, lt-ltb, false≢true, ne_eqb, false_from_ne_true, get_or-replicate, length-set, length-replicate, length-append, get_or-set_same, get_or-set_other, Item, AllLead, LeadsBelow, item_at, jump_to, exit_at, is_laid, first_left, lowest_left, behind, next_after, ends_in_jump, first_laid, next_piece, compact_order, LeadsInside, IsLaying, IsMarking, IsLowestLeft, IsWhole, PieceNo}
use Rattle.std.specs.Cmp.{IsEquivalence}
use Rattle.std.proofs.lemmas.List.Folds.{list_any-append, Any-from_list_any}
use Rattle.std.proofs.lemmas.Map.Keys.{any_passes_from_place, IsDistinct-push}
use Rattle.std.proofs.lemmas.List.Elements.{All-push}
use Rattle.std.proofs.lemmas.Map.Steps.{le-length_from_below, length-le_from_distinct_below}
use Rattle.layout.specs.declared.items.Item.TheVariants as it

-- k may be laid next: it isn't laid, and what falls into it is
pub record IsNext (pieces : List (List Item)) (laid : List ℕ) (k : ℕ) : Type 0 where
  pub inside : k < length pieces
  pub free : is_laid laid k ≡ false
  pub falls : (j : ℕ) → suc j ≡ k → ends_in_jump pieces j ≡ false → is_laid laid j ≡ true

pub the_equality : IsEquivalence eqb
the_equality = record {
  refl = λ x. eq-eqb x x refl;
  symm = λ x y. elim (cases_eq x y) [
    | inl e ↦ eq-eqb x y e ∙ sym (eq-eqb y x (sym e))
    | inr d ↦ ne_eqb x y d ∙ sym (ne_eqb y x (λ e. d (sym e)))
  ];
  congr = λ x y z e. ap (λ (v : ℕ). eqb v z) (eqb-true x y e);
}

pub laid_push : (laid : List ℕ) (x k : ℕ) → is_laid (laid ++ x ∷ []) k ≡ (is_laid laid k || (eqb k x || false))
laid_push laid x k = list_any-append (λ j. eqb k j) laid (x ∷ [])

or_false : (b : Bool) → (b || (false || false)) ≡ b
or_false b = grind arith

pub laid_same : (laid : List ℕ) (x : ℕ) → is_laid (laid ++ x ∷ []) x ≡ true
laid_same laid x = cc (laid_push laid x x, eq-eqb x x refl, or_right (is_laid laid x) true refl)

pub laid_other : (laid : List ℕ) (x k : ℕ) → (k ≡ x → ⊥) → is_laid (laid ++ x ∷ []) k ≡ is_laid laid k
laid_other laid x k h = cc (laid_push laid x k, ne_eqb k x h, or_false (is_laid laid k))

pub laid_kept : (laid : List ℕ) (x k : ℕ) → is_laid laid k ≡ true → is_laid (laid ++ x ∷ []) k ≡ true
laid_kept laid x k h = laid_push laid x k ∙ ap (λ (b : Bool). b || (eqb k x || false)) h

-- the lowest that isn't laid is the first free one
pub first_left_is : (laid : List ℕ) (k room m : ℕ) → k ≤ m → m < k + room
    → ((j : ℕ) → k ≤ j → j < m → is_laid laid j ≡ true) → is_laid laid m ≡ false → first_left laid k room ≡ m
first_left_is laid k zero m a b h f = absurd (omega arith)
first_left_is laid k (suc room) m a b h f = elim (cases_eq k m) [
  | inl e ↦ rw (ap (is_laid laid) e ∙ f) e
  | inr d ↦ rw (h k (omega arith) (omega arith))
      (first_left_is laid (suc k) room m (omega arith) (omega arith) (λ j u v. h j (omega arith) v) f)
]

-- while pieces are left, the first free number is one
pub left_inside : (laid : List ℕ) (n low : ℕ) → length laid < n → ((k : ℕ) → k < low → is_laid laid k ≡ true) → low < n
left_inside laid n low short below = elim (cases_lt low n) [
  | inl l ↦ l
  | inr l ↦
      let all : n ≤ length laid = le-length_from_below laid n (λ q u. below q (omega arith)) in
      absurd (omega arith)
]

pushed_at : (laid : List ℕ) (x : ℕ) → slice_get (laid ++ x ∷ []) (length laid) ≡ Some x
pushed_at [] x = refl
pushed_at (y ∷ ys) x = pushed_at ys x

last_pushed : (laid : List ℕ) (x : ℕ) → slice_get (laid ++ x ∷ []) (length (laid ++ x ∷ []) - 1) ≡ Some x
last_pushed laid x =
    let e : length (laid ++ x ∷ []) - 1 ≡ length laid = omega (arith, length-append laid (x ∷ [])) in
    ap (λ (i : ℕ). slice_get (laid ++ x ∷ []) i) e ∙ pushed_at laid x

last_laid : (laid : List ℕ) (k : ℕ) → slice_get laid (length laid - 1) ≡ Some k → is_laid laid k ≡ true
last_laid laid k e = any_passes_from_place (eqb k) laid (length laid - 1) k e (eq-eqb k k refl)

-- ---- what may come next

lowest_next : (pieces : List (List Item)) (laid : List ℕ) (k : ℕ) → IsLowestLeft pieces laid k → IsNext pieces laid k
lowest_next pieces laid k h = record {
  inside = h.inside;
  free = h.free;
  falls = λ j e f. h.below j (omega arith);
}

through_next : (pieces : List (List Item)) (laid : List ℕ) (last : ℕ) → IsLaying pieces laid
    → slice_get laid (length laid - 1) ≡ Some last → exit_at pieces last ≡ None → suc last < length pieces
    → IsNext pieces laid (suc last)
through_next pieces laid last h end none more = record {
  inside = more;
  free = false_from_ne_true (is_laid laid (suc last)) (λ e. (h.falls last no_exit e).1 end);
  falls = λ j e f. ap (is_laid laid) (omega arith) ∙ last_laid laid last end;
}
  where
    no_exit : ends_in_jump pieces last ≡ false
    no_exit = ap (λ (o : Option PieceNo). is_some o) none

target_next : (pieces : List (List Item)) (laid : List ℕ) (to : ℕ)
    → to < length pieces → is_laid laid to ≡ false → ends_in_jump pieces (to - 1) ≡ true → IsNext pieces laid to
target_next pieces laid to inside free jump = record {
  inside = inside;
  free = free;
  falls = λ j e f. let s : j ≡ to - 1 = omega arith in let g : ends_in_jump pieces (to - 1) ≡ false = ap (ends_in_jump
      pieces) (sym s) ∙ f in absurd (false≢true (sym g ∙ jump));
}

-- ---- the lowest left

left_below : (laid : List ℕ) (k room j : ℕ) → k ≤ j → j < first_left laid k room → is_laid laid j ≡ true
left_below laid k zero j a b = absurd (omega arith)
left_below laid k (suc room) j a b = elim (cases_Bool (is_laid laid k)) [
  | inl e ↦ elim (cases_eq k j) [
    | inl s ↦ ap (is_laid laid) (sym s) ∙ e
    | inr d ↦
        let f : first_left laid k (suc room) ≡ first_left laid (suc k) room = rw e refl in
        left_below laid (suc k) room j (omega (arith, a, d)) (omega (arith, b, f))
  ]
  | inr e ↦
      let f : first_left laid k (suc room) ≡ k = rw e refl in
      absurd (omega (arith, a, b, f))
]

left_free : (laid : List ℕ) (k room : ℕ) → first_left laid k room < k + room
    → is_laid laid (first_left laid k room) ≡ false
left_free laid k zero l = absurd (omega arith)
left_free laid k (suc room) l = elim (cases_Bool (is_laid laid k)) [
  | inl e ↦
      let f : first_left laid k (suc room) ≡ first_left laid (suc k) room = rw e refl in
      ap (is_laid laid) f ∙ left_free laid (suc k) room (omega (arith, l, f))
  | inr e ↦
      let f : first_left laid k (suc room) ≡ k = rw e refl in
      ap (is_laid laid) f ∙ e
]

lowest_is_left : (pieces : List (List Item)) (laid : List ℕ) → length laid < length pieces
    → IsLowestLeft pieces laid (lowest_left pieces laid)
lowest_is_left pieces laid short = record {
  value = refl;
  inside = inside;
  free = left_free laid 0 (length pieces) (omega (arith, inside));
  below = λ j l. left_below laid 0 (length pieces) j (omega arith) l;
}
  where
    inside : first_left laid 0 (length pieces) < length pieces
    inside = left_inside laid (length pieces) (first_left laid 0 (length pieces)) short
        (λ j l. left_below laid 0 (length pieces) j (omega arith) l)

-- ---- the next piece

pub laid_inside : (laid : List ℕ) (n q : ℕ) → All (λ k. k < n) laid → is_laid laid q ≡ true → q < n
laid_inside laid n q h l =
    let a = Any-from_list_any (eqb q) laid l in
    omega (arith, a.3, h a.0 a.1 a.2, eqb-true q a.1 a.4)

some_last : (x : ℕ) (xs : List ℕ) → slice_get (x ∷ xs) (length xs) ≡ None → ⊥
some_last x [] e = cc
some_last x (y ∷ ys) e = some_last y ys e

none_last : (laid : List ℕ) → slice_get laid (length laid - 1) ≡ None → laid ≡ []
none_last [] e = refl
none_last (x ∷ xs) e = absurd (some_last x xs (ap (slice_get (x ∷ xs)) (sym (omega arith)) ∙ e))

next_is : (pieces : List (List Item)) (laid : List ℕ) → LeadsInside pieces → IsLaying pieces laid
    → length laid < length pieces → IsNext pieces laid (next_piece pieces laid)
next_is pieces laid leads h short = start (slice_get laid (length laid - 1)) refl
  where
    lowest : IsNext pieces laid (lowest_left pieces laid)
    lowest = lowest_next pieces laid (lowest_left pieces laid) (lowest_is_left pieces laid short)

    exits : (last : ℕ) (o : Option PieceNo) → exit_at pieces last ≡ o → IfSome o (λ to. to.0 < length pieces)
        → slice_get laid (length laid - 1) ≡ Some last → IsNext pieces laid (behind pieces laid last o)
    exits last None e l end =
        cond_both (ltb (suc last) (length pieces)) (suc last) (lowest_left pieces laid) (IsNext pieces laid)
        (λ m. through_next pieces laid last h end e (ltb-true (suc last) (length pieces) m)) (λ _. lowest)
    exits last (Some to) e l end =
        cond_both (not (is_laid laid to.0) && ends_in_jump pieces (to.0 - 1)) to.0 (lowest_left pieces laid) (IsNext pieces laid)
        (λ t. let parts = and_parts (not (is_laid laid to.0)) _ t in
        target_next pieces laid to.0 l (not-true (is_laid laid to.0) parts.0) parts.1) (λ _. lowest)

    start : (o : Option ℕ) → slice_get laid (length laid - 1) ≡ o → IsNext pieces laid (next_after pieces laid o)
    start None e =
        let s : laid ≡ [] = none_last laid e in
        rw s (record { inside = omega arith; free = refl; falls = λ j e f. absurd (omega arith) })
    start (Some last) e = exits last (exit_at pieces last) refl (leads last) e

-- ---- laying

laying_more : (pieces : List (List Item)) (laid : List ℕ) (x : ℕ) → IsLaying pieces laid → IsNext pieces laid x
    → IsLaying pieces (laid ++ x ∷ [])
laying_more pieces laid x h next = record {
  inside = All-push (λ k. k < length pieces) laid x h.inside next.inside;
  falls = λ k e l. both k (elim (cases_eq (suc k) x) [
    | inl s ↦ next.falls k s e
    | inr d ↦ (h.falls k e (sym (laid_other laid x (suc k) d) ∙ l)).0
  ]);
  distinct = IsDistinct-push the_equality laid x h.distinct next.free;
}
  where
    not_last : (k : ℕ) → is_laid laid k ≡ true → slice_get (laid ++ x ∷ []) (length (laid ++ x ∷ []) - 1) ≢ Some k
    not_last k l e =
        let same : x ≡ k = cc (last_pushed laid x, e) in
        let other : is_laid laid x ≡ true = ap (is_laid laid) same ∙ l in
        absurd (false≢true (sym next.free ∙ other))

    both : (k : ℕ) → is_laid laid k ≡ true
        → (is_laid (laid ++ x ∷ []) k ≡ true) × (slice_get (laid ++ x ∷ []) (length (laid ++ x ∷ []) - 1) ≢ Some k)
    both k l = (laid_kept laid x k l, not_last k l)

laying_none : (pieces : List (List Item)) → IsLaying pieces []
unfolding IsDistinct
laying_none pieces = record {
  distinct = tt;
  inside = λ k d l. absurd (omega arith);
  falls = λ k e l. absurd (false≢true l);
}

-- the first pieces of the order are laid
pub record AreFirst (pieces : List (List Item)) (laid : List ℕ) (count : ℕ) : Type 0 where
  pub laying : IsLaying pieces laid
  pub len : length laid ≡ count

pub first_are : (pieces : List (List Item)) → LeadsInside pieces → (count : ℕ) → count ≤ length pieces
    → AreFirst pieces (first_laid pieces count) count
unfolding first_laid
first_are pieces leads zero l = record { laying = laying_none pieces; len = refl }
first_are pieces leads (suc count) l =
    let h = first_are pieces leads count (omega arith) in
    let n = h.len in
    let laid = first_laid pieces count in
    let short : length (first_laid pieces count) < length pieces = omega (arith, n) in
    record {
      laying = laying_more pieces laid (next_piece pieces laid) h.laying (next_is pieces laid leads h.laying short);
      len = let x = length-append laid (next_piece pieces laid ∷ []) in omega (arith, x, n);
    }

pub first_next : (pieces : List (List Item)) (laid : List ℕ) → LeadsInside pieces
    → laid ≡ first_laid pieces (length laid)
    → length laid < length pieces → IsNext pieces laid (next_piece pieces laid)
first_next pieces laid leads e short =
    next_is pieces laid leads (rw e (first_are pieces leads (length laid) (omega
    arith)).laying) short

pub last_inside : (pieces : List (List Item)) (laid : List ℕ) (last : ℕ) → LeadsInside pieces
    → laid ≡ first_laid pieces (length laid)
    → length laid < length pieces → slice_get laid (length laid - 1) ≡ Some last → last < length pieces
last_inside pieces laid last leads e short end =
    let h : IsLaying pieces laid = rw e (first_are pieces leads (length laid) (omega
    arith)).laying in
    laid_inside laid (length pieces) last h.inside (last_laid laid last end)

-- each piece is laid once
pub whole_is : (pieces : List (List Item)) → LeadsInside pieces → IsWhole pieces (compact_order pieces)
whole_is pieces leads = record {
  laying = h.laying;
  len = h.len;
  once = λ k l. elim (cases_Bool (is_laid (compact_order pieces) k)) [
    | inl t ↦ t
    | inr f ↦
        let laid = compact_order pieces in
        let d = IsDistinct-push the_equality laid k h.laying.distinct f in
        let in' = All-push (λ j. j < length pieces) laid k h.laying.inside l in
        let m = length-le_from_distinct_below (laid ++ k ∷ []) (length pieces) d
        (λ q u. laid_inside (laid ++ k ∷ []) (length pieces) q in' u) in
        absurd (omega (arith, length-append laid (k ∷ []), m, h.len))
  ];
}
  where
    h : AreFirst pieces (compact_order pieces) (length pieces)
    h = first_are pieces leads (length pieces) (omega arith)

-- ---- what follows

get_push_old : (xs : List ℕ) (x i : ℕ) → i < length xs → slice_get (xs ++ x ∷ []) i ≡ slice_get xs i
get_push_old [] x i l = absurd (omega arith)
get_push_old (y ∷ ys) x zero l = refl
get_push_old (y ∷ ys) x (suc i) l = get_push_old ys x i (omega arith)

-- piece i of the order
laid_at : (pieces : List (List Item)) → LeadsInside pieces → (n i : ℕ) → n ≤ length pieces → i < n
    → slice_get (first_laid pieces n) i ≡ Some (next_piece pieces (first_laid pieces i))
unfolding first_laid
laid_at pieces leads zero i l m = absurd (omega arith)
laid_at pieces leads (suc n) i l m = elim (cases_eq i n) [
  | inl e ↦
      ap (slice_get (first_laid pieces n ++ next_piece pieces (first_laid pieces n) ∷ [])) (e ∙ sym len)
      ∙ pushed_at (first_laid pieces n) (next_piece pieces (first_laid pieces n))
      ∙ ap (λ (i : ℕ). Some (next_piece pieces (first_laid pieces i))) (sym e)
  | inr d ↦
      get_push_old (first_laid pieces n) (next_piece pieces (first_laid pieces n)) i (omega (arith, len, d))
      ∙ laid_at pieces leads n i (omega arith) (omega (arith, d))
]
  where
    len : length (first_laid pieces n) ≡ n
    len = (first_are pieces leads n (omega arith)).len

first_grows : (pieces : List (List Item)) (i : ℕ) → first_laid pieces (suc i) ≡ first_laid pieces i ++ next_piece
    pieces (first_laid pieces i) ∷ []
unfolding first_laid
first_grows pieces i = refl

-- the next piece of the list comes right behind one that ends in no Jump
pub follows : (pieces : List (List Item)) → LeadsInside pieces → (k i : ℕ) → suc k < length pieces
    → exit_at pieces k ≡ None
    → i < length pieces → slice_get (compact_order pieces) i ≡ Some k → slice_get (compact_order pieces) (suc i) ≡
    Some (suc k)
follows pieces leads k i more none within is = elim (cases_eq (suc i) (length pieces)) [
  | inl e ↦
      let end : slice_get (compact_order pieces) (length (compact_order pieces) - 1) ≡ Some k = rw e at last in
      absurd ((whole.laying.falls k (ap (λ (o : Option PieceNo). is_some o) none) (whole.once (suc k) more)).1 end)
  | inr d ↦
      laid_at pieces leads (length pieces) (suc i) (omega arith) (omega (arith, d))
      ∙ rw (last, none, lt-ltb (suc k) (length pieces) more) refl
]
  where
    whole : IsWhole pieces (compact_order pieces)
    whole = whole_is pieces leads

    next_k : Some (next_piece pieces (first_laid pieces i)) ≡ Some k
    next_k = sym (laid_at pieces leads (length pieces) i (omega arith) within) ∙ is

    last : slice_get (first_laid pieces (suc i)) (length (first_laid pieces (suc i)) - 1) ≡ Some k
    last =
        cc (first_grows pieces i, last_pushed (first_laid pieces i) (next_piece pieces (first_laid pieces i)), next_k)

-- ---- marks

-- the first free mark shows the lowest piece left
pub lowest_is : (pieces : List (List Item)) (laid : List ℕ) (marks : List Bool) (low k : ℕ)
    → IsMarking pieces laid marks low
    → length laid < length pieces → k ≤ length marks → low ≤ k → ((j : ℕ) → low ≤ j → j < k
    → get_or marks j false ≡ true) → (k < length marks → get_or marks k false ≡ false) → IsLowestLeft pieces laid k
lowest_is pieces laid marks low k h more within above passed free = record {
  value = sym (first_left_is laid 0 (length pieces) k (omega arith) (let l : k < length pieces = inside in omega
      arith) (λ j u v. below j v) unlaid);
  inside = inside;
  free = unlaid;
  below = below;
}
  where
    below : (j : ℕ) → j < k → is_laid laid j ≡ true
    below j l = elim (cases_lt j low) [
      | inl u ↦ h.below j u
      | inr u ↦ sym (h.shown j (omega (arith, h.len))) ∙ passed j u l
    ]

    inside : k < length pieces
    inside = left_inside laid (length pieces) k more below

    unlaid : is_laid laid k ≡ false
    unlaid = sym (h.shown k inside) ∙ free (omega (arith, h.len, inside))

pub marking_higher : (pieces : List (List Item)) (laid : List ℕ) (marks : List Bool) (low k : ℕ)
    → IsMarking pieces laid marks low → IsLowestLeft pieces laid k → IsMarking pieces laid marks k
marking_higher pieces laid marks low k h l =
    let within : k ≤ length pieces = omega (arith, l.inside) in assumption (within, h, l)

pub marking_more : (pieces : List (List Item)) (laid : List ℕ) (marks : List Bool) (low x : ℕ)
    → IsMarking pieces laid marks low
    → x ≡ next_piece pieces laid → x < length pieces → IsMarking pieces (laid ++ x ∷ []) (set marks x true) low
marking_more pieces laid marks low x h is inside = record {
  order = grown;
  len = length-set marks x true ∙ h.len;
  shown = λ k l. elim (cases_eq k x) [
    | inl e ↦
        let at : get_or (set marks x true) x false ≡ true = get_or-set_same marks x true false (omega (arith, h.len, inside)) in
        cc (e, at, laid_same laid x)
    | inr d ↦ get_or-set_other marks x k true false d ∙ h.shown k l ∙ sym (laid_other laid x k d)
  ];
  within = h.within;
  below = λ k l. laid_kept laid x k (h.below k l);
}
  where
    more : length (laid ++ x ∷ []) ≡ suc (length laid)
    more = let y = length-append laid (x ∷ []) in omega (arith, y)

    grown : laid ++ x ∷ [] ≡ first_laid pieces (length (laid ++ x ∷ []))
    grown = cc (is, h.order, first_grows pieces (length laid), more)

pub marking_none : (pieces : List (List Item)) → IsMarking pieces [] (replicate (length pieces) false) 0
unfolding first_laid
marking_none pieces = record {
  order = refl;
  len = length-replicate (length pieces) false;
  shown = λ k l. get_or-replicate (length pieces) k false false l;
  within = omega arith;
  below = λ k l. absurd (omega arith);
}

-- ---- Jumps at the end

pub item_is : (pieces : List (List Item)) (k n : ℕ) → item_at pieces k n ≡ slice_get (get_or pieces k []) n
item_is [] k n = refl
item_is (items ∷ pieces) zero n = refl
item_is (items ∷ pieces) (suc k) n = item_is pieces k n

exit_leads : (count : ℕ) (o : Option Item) → LeadsBelow count o → IfSome (jump_to o) (λ to. to.0 < count)
exit_leads count (Some (it.Jump to)) h = h
exit_leads count _ h = tt

pub exits_lead : (pieces : List (List Item)) → AllLead pieces → LeadsInside pieces
exits_lead pieces h k =
    exit_leads (length pieces) (slice_get (get_or pieces k []) (length (get_or pieces k []) - 1))
    (rw (item_is pieces k (length (get_or pieces k []) - 1)) at (h k (length (get_or
    pieces k []) - 1)))

-- The ranges are those of the Marks.
use Rattle.layout.proofs.Common.{◌≡◌, ℕ, zero, suc, ◌+◌, ◌<◌, ◌≤◌, Bool, true, false, ◌&&◌, Option, Some, None, List, [], ◌∷◌, ◌++◌, length, map, slice_get, refl, ap, sym, ◌∙◌, append_assoc, arith, nat_le, nat_lt, if◌then◌else◌, nat_tests, slice_get_within, length-append, length-map, map-append, Range, NoteRange, Item, Entry, OpenRange, note_range, range_in, item_at, AreMarked, OpenMark, end_from, open_from, range_of, Ascend, IsRangeOf, entries_in, entries_from, closed, closes, opens, ranges_from, lt-ltb, ltb-true, cond_both}
use Rattle.layout.specs.declared.items.Item.TheVariants as it
use Rattle.layout.specs.declared.entries.Entry.TheVariants as en
use Rattle.layout.proofs.Widening.{rises_to}
use Rattle.layout.proofs.Listed.{items_at}

-- the ranges as notes say them
abbrev pub seen : List Range → List NoteRange
seen ranges = map note_range ranges

-- ---- one after the other

pub ascend_from : (b : ℕ) (rs : List NoteRange) (a c : ℕ) → a ≤ b → Ascend b c rs → Ascend a c rs
ascend_from b [] a c h k = omega arith
ascend_from b (r ∷ rs) a c h k = let x = k.0 in (omega arith, k.1, k.2)

ascend_then : (xs ys : List NoteRange) (a b c : ℕ) → Ascend a b xs → Ascend b c ys → Ascend a c (xs ++ ys)
ascend_then [] ys a b c h k = ascend_from b ys a c h k
ascend_then (x ∷ xs) ys a b c h k = (h.0, h.1, ascend_then xs ys x.hi b c h.2 k)

holds : (lo hi a : ℕ) → lo ≤ a → a < hi → (nat_le lo a && nat_lt a hi) ≡ true
holds lo hi a h k = grind (arith, nat_tests)

before : (lo hi a : ℕ) → a < lo → (nat_le lo a && nat_lt a hi) ≡ false
before lo hi a h = grind (arith, nat_tests)

past : (lo hi a : ℕ) → hi ≤ a → (nat_le lo a && nat_lt a hi) ≡ false
past lo hi a h = grind (arith, nat_tests)

-- what begins later hasn't the address
pub none_before : (rs : List NoteRange) (from to a : ℕ) → Ascend from to rs → a < from → range_in rs a ≡ None
none_before [] from to a h k = refl
none_before (r ∷ rs) from to a h k =
    let x = h.0 in
    let y = h.1 in
    cc (before r.lo r.hi a (omega arith), none_before rs r.hi to a h.2 (omega arith))

pub ends_by : (rs : List NoteRange) (from to : ℕ) → Ascend from to rs → from ≤ to
ends_by [] from to h = h
ends_by (r ∷ rs) from to h =
    let y = h.1 in
    let z = ends_by rs r.hi to h.2 in
    omega arith

-- what ends before it hasn't either
pub none_past : (rs qs : List NoteRange) (from to a : ℕ) → Ascend from to rs → to ≤ a
    → range_in (rs ++ qs) a ≡ range_in qs a
none_past [] qs from to a h k = refl
none_past (r ∷ rs) qs from to a h k =
    let z = ends_by rs r.hi to h.2 in
    cc (past r.lo r.hi a (omega arith), none_past rs qs r.hi to a h.2 k)

pub first_part : (rs qs : List NoteRange) (from to a : ℕ) → Ascend from to qs → a < from
    → range_in (rs ++ qs) a ≡ range_in rs a
first_part [] qs from to a h k = none_before qs from to a h k
first_part (r ∷ rs) qs from to a h k = ap (λ (z : Option NoteRange). if nat_le r.lo a && nat_lt a r.hi then Some r
    else z) (first_part rs qs from to a h k)

-- ---- the ranges of a piece, whose items stand at these places

abbrev pub piece_ranges : (ℕ → ℕ) → ℕ → Option OpenRange → List Item → List Range
piece_ranges place i mark [] = []
piece_ranges place i mark (x ∷ xs) =
    closes (place i) mark (en.Item x) ++ piece_ranges place (suc i) (opens (place i) mark (en.Item x)) xs

abbrev is_open : Option OpenRange → Bool
is_open None = false
is_open (Some m) = true

-- where an open Mark begins
abbrev begin_of : Option OpenRange → ℕ → ℕ
begin_of None here = here
begin_of (Some m) here = m.lo.0

-- Marks take no room
abbrev pub AreStill : (ℕ → ℕ) → ℕ → List Item → Type 0
AreStill place i [] = Unit {0}
AreStill place i (it.Mark address node ∷ xs) = (place (suc i) ≡ place i) × AreStill place (suc i) xs
AreStill place i (it.EndMark ∷ xs) = (place (suc i) ≡ place i) × AreStill place (suc i) xs
AreStill place i (_ ∷ xs) = AreStill place (suc i) xs

abbrev pub Rises : (ℕ → ℕ) → Type 0
Rises place = (n : ℕ) → place n ≤ place (suc n)

-- the range of an open Mark that ends here
abbrev ended_at : OpenRange → ℕ → Range
ended_at m here = record { lo = m.lo; hi = record { 0 = here }; address = m.address; node = m.node }

ended_ascends : (mark : Option OpenRange) (here to : ℕ) (rest : List Range) → begin_of mark here ≤ here
    → Ascend here to (seen rest) → Ascend (begin_of mark here) to (seen (closed mark here ++ rest))
ended_ascends None here to rest h k = k
ended_ascends (Some m) here to rest h k = cond_both (nat_lt m.lo.0 here) (ended_at m here ∷ []) []
    (λ rs. Ascend m.lo.0 to (seen (rs ++ rest))) (λ e. (omega arith, ltb-true m.lo.0 here e, k))
    (λ e. ascend_from here (seen rest) m.lo.0 to h k)

-- past an item that closes nothing
past_item : (place : ℕ → ℕ) → Rises place → (i to : ℕ) (mark : Option OpenRange) (xs : List Item)
    → begin_of mark (place i) ≤ place i
    → (begin_of mark (place (suc i)) ≤ place (suc i) → Ascend (begin_of mark (place (suc i))) to (seen (piece_ranges
    place (suc i) mark xs))) → Ascend (begin_of mark (place i)) to (seen (piece_ranges place (suc i) mark xs))
past_item place up i to None xs low k =
    ascend_from (place (suc i)) (seen (piece_ranges place (suc i) None xs)) (place i) to (up i) (k (omega arith))
past_item place up i to (Some m) xs low k = let u = up i in k (omega (arith, low, u))

pub piece_ascends : (place : ℕ → ℕ) → Rises place → (items : List Item) (i m to : ℕ) (mark : Option OpenRange)
    → AreMarked (is_open mark) items → begin_of mark (place i) ≤ place i → m ≡ i + length items → place m ≤ to
    → Ascend (begin_of mark (place i)) to (seen (piece_ranges place i mark items))
piece_ascends place up [] i m to None marked h e l =
    let f : m ≡ i = omega (arith, e) in rw f at l
piece_ascends place up [] i m to (Some r) marked h e l = absurd marked
piece_ascends place up (it.Mark address node ∷ xs) i m to None marked h e l =
    piece_ascends place up xs (suc i) m to (Some (record {
      lo = record { 0 = place i };
      address = address;
      node = node;
    })) marked (up i) (omega (arith, e)) l
piece_ascends place up (it.Mark address node ∷ xs) i m to (Some r) marked h e l = absurd marked
piece_ascends place up (it.EndMark ∷ xs) i m to mark marked h e l =
    let rest = ascend_from (place (suc i)) (seen (piece_ranges place (suc i) None xs)) (place i) to (up i)
    (piece_ascends place up xs (suc i) m to None marked (omega arith) (omega (arith, e)) l) in
    ended_ascends mark (place i) to (piece_ranges place (suc i) None xs) h rest
piece_ascends place up (x ∷ xs) i m to mark marked h e l =
    past_item place up i to mark xs h (λ g. piece_ascends place up xs (suc i) m to mark marked g (omega (arith, e)) l)

-- ---- the range that is found

-- an open Mark, by its numbers and by its addresses: its end is the next one, from item i on
abbrev AreSame : (ℕ → ℕ) → List Item → ℕ → Option OpenMark → Option OpenRange → Type 0
AreSame place items i None None = Unit {0}
AreSame place items i (Some o) (Some m) = (place o.first ≡ m.lo.0) × (o.last ≡ end_from items i)
    × (o.address ≡ m.address.0) × (o.node ≡ m.node)
AreSame place items i None (Some m) = ⊥
AreSame place items i (Some o) None = ⊥

abbrev range_at : (m : OpenRange) → ℕ → NoteRange
range_at m hi = record { lo = m.lo.0; hi = hi; address = m.address.0; node = m.node }

closes_here : (m : OpenRange) (here a : ℕ) (rest : List Range) → m.lo.0 ≤ a → a < here
    → range_in (seen (closed (Some m) here ++ rest)) a ≡ Some (range_at m here)
closes_here m here a rest h k = cc (lt-ltb m.lo.0 here (omega arith), holds m.lo.0 here a h k)

-- a Mark that is open before these items, at an address before them
closes_at : (place : ℕ → ℕ) → Rises place → (items : List Item) (i a : ℕ) (m : OpenRange) → AreMarked true items
    → m.lo.0 ≤ a → a < place i
    → range_in (seen (piece_ranges place i (Some m) items)) a ≡ Some (range_at m (place (end_from items i)))
closes_at place up [] i a m marked h k = absurd marked
closes_at place up (it.EndMark ∷ xs) i a m marked h k = closes_here m (place i) a (piece_ranges place (suc i) None xs)
    h k
closes_at place up (it.Mark address node ∷ xs) i a m marked h k = absurd marked
closes_at place up (_ ∷ xs) i a m marked h k = closes_at place up xs (suc i) a m marked h (omega (arith, up i, k))

same_range : (place : ℕ → ℕ) (o : OpenMark) (m : OpenRange) (hi : ℕ) → place o.first ≡ m.lo.0 → place o.last ≡ hi
    → o.address ≡ m.address.0 → o.node ≡ m.node → Some (range_at m hi) ≡ range_of place (Some o)
same_range place o m hi a b c d = cc (a, b, c, d)

-- at the words of the first item
at_first : (place : ℕ → ℕ) → Rises place → (x : Item) (xs : List Item) (i a : ℕ) (o : Option OpenMark) (mark : Option
    OpenRange) → end_from (x ∷ xs) i ≡ end_from xs (suc i) → AreSame place (x ∷ xs) i o mark
    → AreMarked (is_open mark) xs → begin_of mark (place i) ≤ place i → place i ≤ a → a < place (suc i)
    → range_in (seen (piece_ranges place (suc i) mark xs)) a ≡ range_of place o
at_first place up x xs i a None None e same marked low h k =
    none_before _ (place (suc i)) (place (suc i + length xs)) a
    (piece_ascends place up xs (suc i) (suc i + length xs) _ None marked (omega arith) refl (omega arith)) k
at_first place up x xs i a (Some o) (Some m) e same marked low h k =
    closes_at place up xs (suc i) a m marked (omega arith) k
    ∙ same_range place o m (place (end_from xs (suc i))) same.0 (ap place (same.1 ∙ e)) same.2 same.3
at_first place up x xs i a o mark e same marked low h k = absurd same

same_on : (place : ℕ → ℕ) (x : Item) (xs : List Item) (i : ℕ) (o : Option OpenMark) (mark : Option OpenRange)
    → end_from (x ∷ xs) i ≡ end_from xs (suc i) → AreSame place (x ∷ xs) i o mark → AreSame place xs (suc i) o mark
same_on place x xs i None None e h = tt
same_on place x xs i (Some o) (Some m) e h = (h.0, h.1 ∙ e, h.2, h.3)
same_on place x xs i o mark e h = absurd h

-- the range of a Mark that has ended isn't found any more
closed_past : (mark : Option OpenRange) (here a : ℕ) (rest : List Range) → here ≤ a
    → range_in (seen (closed mark here ++ rest)) a ≡ range_in (seen rest) a
closed_past None here a rest h = refl
closed_past (Some m) here a rest h = cond_both (nat_lt m.lo.0 here) (ended_at m here ∷ []) []
    (λ rs. range_in (seen (rs ++ rest)) a ≡ range_in (seen rest) a)
    (λ _. ap (λ (z : Bool). if z then Some (range_at m here) else range_in (seen rest) a) (past m.lo.0 here a h)) (λ _. refl)

low_on : (place : ℕ → ℕ) → Rises place → (i : ℕ) (mark : Option OpenRange) → begin_of mark (place i) ≤ place i
    → begin_of mark (place (suc i)) ≤ place (suc i)
low_on place up i None h = omega arith
low_on place up i (Some m) h = let u = up i in omega (arith, u, h)

finds : (place : ℕ → ℕ) → Rises place → (items : List Item) (n i m a : ℕ) (o : Option OpenMark)
    (mark : Option OpenRange) (x : Item) → AreStill place i items → AreSame place items i o mark
    → AreMarked (is_open mark) items → begin_of mark (place i) ≤ place i → slice_get items n ≡ Some x → m ≡ i + n
    → place m ≤ a → a < place (suc m)
    → range_in (seen (piece_ranges place i mark items)) a ≡ range_of place (open_from items i n o)
finds place up [] n i m a o mark x s same marked low e g h k = absurd (cc)
finds place up (it.Mark address node ∷ xs) zero i m a o mark x s same marked low e g h k =
    let f : m ≡ i = omega (arith, g) in
    absurd (omega (arith, rw f at h, rw f at k, s.0))
finds place up (it.EndMark ∷ xs) zero i m a o mark x s same marked low e g h k =
    let f : m ≡ i = omega (arith, g) in
    absurd (omega (arith, rw f at h, rw f at k, s.0))
finds place up (it.EndMark ∷ xs) (suc n) i m a o mark x s same marked low e g h k =
    closed_past mark (place i) a (piece_ranges place (suc i) None xs)
    (let r = rises_to place up i m (omega (arith, g)) in omega (arith, r, h))
    ∙ finds place up xs n (suc i) m a None None x s.1 tt marked (omega arith) e (omega (arith, g)) h k
finds place up (it.Mark address node ∷ xs) (suc n) i m a o None x s same marked low e g h k =
    finds place up xs n (suc i) m a _ (Some (record { lo = record { 0 = place i }; address = address; node = node })) x
    s.1 (s.0, refl, refl, refl) marked (up i) e (omega (arith, g)) h k
finds place up (it.Mark address node ∷ xs) (suc n) i m a o (Some r) x s same marked low e g h k = absurd marked
finds place up (y ∷ xs) zero i m a o mark x s same marked low e g h k =
    let f : m ≡ i = omega (arith, g) in
    at_first place up y xs i a o mark refl same marked low (rw f at h) (rw f at k)
finds place up (y ∷ xs) (suc n) i m a o mark x s same marked low e g h k =
    finds place up xs n (suc i) m a o mark x s (same_on place y xs i o mark refl same) marked
    (low_on place up i mark low) e (omega (arith, g)) h k

-- ---- the ranges of all pieces, in an order

marked_on : (here : ℕ) (mark : Option OpenRange) (x : Item) (xs : List Item) → AreMarked (is_open mark) (x ∷ xs)
    → AreMarked (is_open (opens here mark (en.Item x))) xs
marked_on here mark x xs h = grind arith

module _ (at : ℕ → ℕ) (up : (n : ℕ) → at n ≤ at (suc n)) where
  places_rise : (c : ℕ) → Rises (λ n. at (c + n))
  places_rise c n = let u = up (c + n) in let e : at (suc (c + n)) ≡ at (c + suc n) = ap at (omega arith) in omega
      (arith, u, e)

  as_piece : (items : List Item) (c i m : ℕ) (mark : Option OpenRange) (ys : List Entry) → AreMarked (is_open mark) items
      → m ≡ c + i + length items
      → ranges_from at (c + i) mark (map en.Item items ++ ys) ≡ piece_ranges (λ n. at (c + n)) i mark items ++
      ranges_from at m None ys
  as_piece [] c i m None ys marked e = ap (λ n. ranges_from at n None ys) (let f : c + i ≡ m = omega (arith, e) in f)
  as_piece [] c i m (Some o) ys marked e = absurd marked
  as_piece (x ∷ xs) c i m mark ys marked e =
      let more = as_piece xs c (suc i) m (opens (at (c + i)) mark (en.Item x)) ys (marked_on (at (c + i)) mark x xs
      marked) (omega (arith, e)) in
      let f : suc (c + i) ≡ c + suc i = omega arith in
      ap (λ (rs : List Range). closes (at (c + i)) mark (en.Item x) ++ rs) (cc (f, more))
      ∙ sym (append_assoc (closes (at (c + i)) mark (en.Item x))
      (piece_ranges (λ n. at (c + n)) (suc i) (opens (at (c + i)) mark (en.Item x)) xs) (ranges_from at m None ys))

  module _ (pieces : List (List Item)) (marked : (k : ℕ) → AreMarked false (items_at pieces k)) where
    -- the number of the entry behind a piece that starts here
    abbrev behind_at : ℕ → ℕ → ℕ
    behind_at c k = c + 1 + length (items_at pieces k)

    one_piece : (c k : ℕ) (ks : List ℕ) → ranges_from at c None (entries_from pieces (k ∷ ks))
        ≡ piece_ranges (λ n. at (c + 1 + n)) 0 None (items_at pieces k) ++ ranges_from at (behind_at c k) None
        (entries_from pieces ks)
    one_piece c k ks =
        ap (λ n. ranges_from at n None (map en.Item (items_at pieces k) ++ entries_from pieces ks)) (let e : suc c ≡ c
        + 1 + 0 = omega arith in e)
        ∙ as_piece (items_at pieces k) (c + 1) 0 (behind_at c k) None (entries_from pieces ks) (marked k) (omega arith)

    pub seen_both : (c k : ℕ) (ks : List ℕ) → seen (ranges_from at c None (entries_from pieces (k ∷ ks)))
        ≡ seen (piece_ranges (λ n. at (c + 1 + n)) 0 None (items_at pieces k)) ++ seen (ranges_from at (behind_at c k)
        None (entries_from pieces ks))
    seen_both c k ks =
        ap seen (one_piece c k ks)
        ∙ map-append note_range (piece_ranges (λ n. at (c + 1 + n)) 0 None (items_at pieces k)) (ranges_from at
        (behind_at c k) None (entries_from pieces ks))

    pub count_more : (k : ℕ) (ks : List ℕ) → length (entries_from pieces (k ∷ ks)) ≡ 1 + length (items_at pieces k) +
        length (entries_from pieces ks)
    count_more k ks =
        let both = length-append (entries_in k (items_at pieces k)) (entries_from pieces ks) in
        omega (arith, both, length-map (items_at pieces k) en.Item)

    one_ascends : (c k : ℕ) → Ascend (at c) (at (behind_at c k)) (seen (piece_ranges (λ n. at (c + 1 + n)) 0 None
        (items_at pieces k)))
    one_ascends c k =
        let u = up c in
        let e : at (suc c) ≡ at (c + 1 + 0) = ap at (omega arith) in
        ascend_from (at (c + 1 + 0)) _ (at c) (at (behind_at c k)) (omega (arith, u, e))
        (piece_ascends (λ n. at (c + 1 + n)) (places_rise (c + 1)) (items_at pieces k) 0 (length (items_at pieces k)) (at
        (behind_at c k)) None (marked k) (omega arith) (omega arith) (omega arith))

    pub order_ascends : (ks : List ℕ) (c m : ℕ) → m ≡ c + length (entries_from pieces ks)
        → Ascend (at c) (at m) (seen (ranges_from at c None (entries_from pieces ks)))
    order_ascends [] c m e = let f : at c ≡ at m = ap at (omega (arith, e)) in omega (arith, f)
    order_ascends (k ∷ ks) c m e =
        let n = count_more k ks in
        rw (seen_both c k ks) (ascend_then (seen (piece_ranges (λ n. at (c + 1 + n)) 0 None (items_at pieces k)))
        (seen (ranges_from at (behind_at c k) None (entries_from pieces ks))) (at c) (at (behind_at c k)) (at m)
        (one_ascends c k) (order_ascends ks (behind_at c k) m (omega (arith, e, n))))

    -- at an address of an item the range of the Mark that is open there is found
    pub order_finds : (before after : List ℕ) (c s k n a : ℕ) (x : Item) → s ≡ c + length (entries_from pieces before)
        → AreStill (λ n. at (s + 1 + n)) 0 (items_at pieces k)
        → slice_get (items_at pieces k) n ≡ Some x → at (s + 1 + n) ≤ a → a < at (s + 1 + suc n)
        → range_in (seen (ranges_from at c None (entries_from pieces (before ++ k ∷ after)))) a
        ≡ range_of (λ n. at (s + 1 + n)) (open_from (items_at pieces k) 0 n None)
    order_finds [] after c s k n a x e still is h l =
        rw (let f : c ≡ s = omega (arith, e) in f) here
      where
        below : a < at (behind_at s k)
        below =
            let g = slice_get_within (items_at pieces k) n x is in
            let r = rises_to at up (s + 1 + suc n) (behind_at s k) (omega (arith, g)) in
            omega (arith, r, l)

        here : range_in (seen (ranges_from at s None (entries_from pieces (k ∷ after)))) a
            ≡ range_of (λ n. at (s + 1 + n)) (open_from (items_at pieces k) 0 n None)
        here =
            ap (λ (rs : List NoteRange). range_in rs a) (seen_both s k after)
            ∙ first_part (seen (piece_ranges (λ n. at (s + 1 + n)) 0 None (items_at pieces k)))
            (seen (ranges_from at (behind_at s k) None (entries_from pieces after))) (at (behind_at s k)) _ a
            (order_ascends after (behind_at s k) (behind_at s k + length (entries_from pieces after)) refl) below
            ∙ finds (λ n. at (s + 1 + n)) (places_rise (s + 1)) (items_at pieces k) n 0 n a None None x still tt (marked
            k) (omega arith) is (omega arith) h l
    order_finds (j ∷ js) after c s k n a x e still is h l =
        let m = count_more j js in
        let r = rises_to at up (behind_at c j) (s + 1 + n) (omega (arith, e, m)) in
        ap (λ (rs : List NoteRange). range_in rs a) (seen_both c j (js ++ k ∷ after))
        ∙ none_past (seen (piece_ranges (λ n. at (c + 1 + n)) 0 None (items_at pieces j)))
        (seen (ranges_from at (behind_at c j) None (entries_from pieces (js ++ k ∷ after)))) (at c) (at (behind_at c
        j)) a (one_ascends c j) (omega (arith, r, h))
        ∙ order_finds js after (behind_at c j) s k n a x (omega (arith, e, m)) still is h l

-- ---- whose range each is

-- these are the items of a piece from item i on
abbrev pub AreFrom : List (List Item) → ℕ → List Item → ℕ → Type 0
AreFrom pieces k items i = (j m : ℕ) (x : Item) → m ≡ i + j → slice_get items j ≡ Some x → item_at pieces k m ≡ Some x

pub from_next : (pieces : List (List Item)) (k : ℕ) (y : Item) (items : List Item) (i : ℕ)
    → AreFrom pieces k (y ∷ items) i → AreFrom pieces k items (suc i)
from_next pieces k y items i are j m x e f = are (suc j) m x (omega (arith, e)) f

module _ (pieces : List (List Item)) (place : ℕ → ℕ → ℕ) where
  abbrev pub AllOf : List NoteRange → Type 0
  AllOf [] = Unit {0}
  AllOf (r ∷ rs) = IsRangeOf pieces place r × AllOf rs

  pub all_then : (xs ys : List NoteRange) → AllOf xs → AllOf ys → AllOf (xs ++ ys)
  all_then [] ys h k = k
  all_then (x ∷ xs) ys h k = (h.0, all_then xs ys h.1 k)

  pub one_of : (rs : List NoteRange) (n : ℕ) (r : NoteRange) → AllOf rs → slice_get rs n ≡ Some r
      → IsRangeOf pieces place r
  one_of [] n r h e = absurd (cc)
  one_of (q ∷ rs) zero r h e = let f : q ≡ r = cc in rw f at h.0
  one_of (q ∷ rs) (suc n) r h e = one_of rs n r h.1 e

  abbrev IsMade : Option OpenRange → Type 0
  IsMade None = Unit {0}
  IsMade (Some m) = (hi : ℕ) → IsRangeOf pieces place (range_at m hi)

  closed_made : (mark : Option OpenRange) (here : ℕ) → IsMade mark → AllOf (seen (closed mark here))
  closed_made None here h = tt
  closed_made (Some m) here h =
      cond_both (nat_lt m.lo.0 here) (ended_at m here ∷ []) [] (λ rs. AllOf (seen rs)) (λ _. (h here, tt)) (λ _. tt)

  pub piece_made : (items : List Item) (k i : ℕ) (mark : Option OpenRange) → AreFrom pieces k items i
      → AreStill (place k) i items → IsMade mark → AllOf (seen (piece_ranges (place k) i mark items))
  piece_made [] k i mark are s h = tt
  piece_made (it.EndMark ∷ xs) k i mark are s h =
      rw (map-append note_range (closed mark (place k i)) (piece_ranges (place k) (suc i) None xs))
      (all_then (seen (closed mark (place k i))) _ (closed_made mark (place k i) h)
      (piece_made xs k (suc i) None (from_next pieces k _ xs i are) s.1 tt))
  piece_made (it.Mark address node ∷ xs) k i mark are s h =
      piece_made xs k (suc i) (Some (record { lo = record { 0 = place k i }; address = address; node = node }))
      (from_next pieces k _ xs i are) s.1 (λ hi. record {
        piece = k;
        item = i;
        address = address;
        mark = are 0 i _ (omega arith) refl;
        says = refl;
        lo = sym s.0;
      })
  piece_made (_ ∷ xs) k i mark are s h = piece_made xs k (suc i) mark (from_next pieces k _ xs i are) s h

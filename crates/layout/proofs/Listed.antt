-- The pieces as one list of entries.
use Rattle.layout.proofs.Common.{◌≡◌, ℕ, zero, suc, ◌+◌, ◌<◌, ◌≤◌, inl, inr, Bool, true, false, ◌||◌, eqb, List, [], ◌∷◌, ◌++◌, length, get_or, set, slice_get, Some, IfSome, map, refl, ap, sym, ◌∙◌, append_assoc, arith, if◌then◌else◌, All, AllByRecursion, IsDistinct, sum_by, cases_Bool, eqb-true, eq-eqb, false≢true, ne_eqb, or_parts, sum_by-set, get_or-set_other, length-set, length-append, length-map, Item, Entry, AllLead, LeadsBelow, is_laid, IsWhole, entries_in, entries_from, start_of, target, IsListing}
use Rattle.layout.specs.declared.entries.Entry.TheVariants as en
use Rattle.layout.proofs.Laying.{the_equality, laid_inside, item_is}
use Rattle.layout.proofs.Offsets.{piece_in}

-- ---- orders

abbrev pub items_at : List (List Item) → ℕ → List Item
items_at pieces k = get_or pieces k []

pub from_append : (pieces : List (List Item)) (fs rs : List ℕ)
    → entries_from pieces (fs ++ rs) ≡ entries_from pieces fs ++ entries_from pieces rs
from_append pieces [] rs = refl
from_append pieces (k ∷ fs) rs =
    rw (from_append pieces fs rs, append_assoc (entries_in k (items_at pieces k)) (entries_from pieces fs) (entries_from pieces rs)) refl

-- an order by its first part, a piece that isn't in it, and the rest
pub record IsSplit (order : List ℕ) (k : ℕ) : Type 0 where
  pub before : List ℕ
  pub after : List ℕ
  pub is : order ≡ before ++ k ∷ after
  pub absent : is_laid before k ≡ false

or_false : (a b : Bool) → a ≡ false → (a || b) ≡ b
or_false true b e = absurd (false≢true (sym e))
or_false false b e = refl

pub split_at : (order : List ℕ) (k : ℕ) → is_laid order k ≡ true → IsSplit order k
split_at [] k e = absurd (false≢true e)
split_at (j ∷ js) k e = elim (cases_Bool (eqb k j)) [
  | inl s ↦ record { before = []; after = js; is = ap (λ (j : ℕ). j ∷ js) (sym (eqb-true k j s)); absent = refl }
  | inr d ↦
      let h = split_at js k (sym (or_false (eqb k j) (is_laid js k) d) ∙ e) in
      record {
        before = j ∷ h.before;
        after = h.after;
        is = ap (λ (xs : List ℕ). j ∷ xs) h.is;
        absent = or_false (eqb k j) (is_laid h.before k) d ∙ h.absent;
      }
]

-- ---- where pieces start

start_self : (k : ℕ) (xs : List Entry) → start_of (en.Start (record { 0 = k }) ∷ xs) k ≡ 0
start_self k xs = ap (λ (b : Bool). if b then 0 else suc (start_of xs k)) (eq-eqb k k refl)

start_past : (k j : ℕ) (xs : List Entry) → eqb k j ≡ false → start_of (en.Start (record { 0 = j }) ∷ xs) k ≡ suc
    (start_of xs k)
start_past k j xs e = ap (λ (b : Bool). if b then 0 else suc (start_of xs k)) e

start_items : (k : ℕ) (items : List Item) (xs : List Entry) → start_of (map en.Item items ++ xs) k ≡ length items +
    start_of xs k
start_items k [] xs = omega arith
start_items k (x ∷ items) xs = let h = start_items k items xs in omega (arith, h)

pub start_at : (pieces : List (List Item)) (fs rs : List ℕ) (k : ℕ) → is_laid fs k ≡ false
    → start_of (entries_from pieces (fs ++ k ∷ rs)) k ≡ length (entries_from pieces fs)
start_at pieces [] rs k e = start_self k _
start_at pieces (j ∷ fs) rs k e =
    let d : eqb k j ≡ false = (or_parts (eqb k j) (is_laid fs k) e).0 in
    let a = start_past k j (map en.Item (items_at pieces j) ++ entries_from pieces (fs ++ k ∷ rs)) d in
    let ahead = start_items k (items_at pieces j) (entries_from pieces (fs ++ k ∷ rs)) in
    let there = start_at pieces fs rs k (or_parts (eqb k j) (is_laid fs k) e).1 in
    let both = length-append (entries_in j (items_at pieces j)) (entries_from pieces fs) in
    omega (arith, a, ahead, there, both, length-map (items_at pieces j) en.Item)

-- ---- a sum over pieces in an order is no more than that over all

abbrev pub weigh : (List Item → ℕ) → List (List Item) → List ℕ → ℕ
weigh f pieces [] = 0
weigh f pieces (k ∷ ks) = f (items_at pieces k) + weigh f pieces ks

weigh_other : (f : List Item → ℕ) (pieces : List (List Item)) (k : ℕ) (ks : List ℕ) → is_laid ks k ≡ false
    → weigh f (set pieces k []) ks ≡ weigh f pieces ks
weigh_other f pieces k [] e = refl
weigh_other f pieces k (j ∷ js) e =
    let p = or_parts (eqb k j) (is_laid js k) e in
    let same = get_or-set_other pieces k j [] [] (λ s. false≢true (sym p.0 ∙ eq-eqb k j (sym s))) in
    omega (arith, ap f same, weigh_other f pieces k js p.1)

absent_head : (k : ℕ) (ks : List ℕ) → IsDistinct eqb (k ∷ ks) → is_laid ks k ≡ false
unfolding IsDistinct
absent_head k [] d = refl
absent_head k (j ∷ js) d = or_false (eqb k j) (is_laid js k) d.0.0 ∙ absent_head k js (d.0.1, d.1.1)

distinct_tail : (k : ℕ) (ks : List ℕ) → IsDistinct eqb (k ∷ ks) → IsDistinct eqb ks
unfolding IsDistinct
distinct_tail k ks d = d.1

weigh_once : (f : List Item → ℕ) → f [] ≡ 0 → (pieces : List (List Item)) (order : List ℕ) → IsDistinct eqb order
    → All (λ k. k < length pieces) order → weigh f pieces order ≤ sum_by f pieces
weigh_once f none pieces [] d h = omega arith
weigh_once f none pieces (k ∷ ks) d h =
    let less = sum_by-set f pieces k [] [] (h 0 0 (omega arith)) in
    let other = weigh_other f pieces k ks (absent_head k ks d) in
    let rest = weigh_once f none (set pieces k []) ks (distinct_tail k ks d)
    (λ i x l. rw (length-set pieces k []) (h (suc i) x (omega arith))) in
    omega (arith, less, other, rest, none)

pub weighs_less : (f : List Item → ℕ) → f [] ≡ 0 → (pieces : List (List Item)) (order : List ℕ) → IsWhole pieces order
    → weigh f pieces order ≤ sum_by f pieces
weighs_less f none pieces order h = weigh_once f none pieces order h.laying.distinct h.laying.inside

-- ---- how many entries

entry_count : (pieces : List (List Item)) (order : List ℕ)
    → length (entries_from pieces order) ≡ length order + weigh length pieces order
entry_count pieces [] = omega arith
entry_count pieces (k ∷ ks) =
    let both = length-append (entries_in k (items_at pieces k)) (entries_from pieces ks) in
    omega (arith, entry_count pieces ks, both, length-map (items_at pieces k) en.Item)

pub few_entries : (pieces : List (List Item)) (order : List ℕ) → IsWhole pieces order
    → length (entries_from pieces order) ≤ length pieces + sum_by length pieces
few_entries pieces order h = omega (arith, entry_count pieces order, weighs_less length refl pieces order h, h.len)

-- ---- where they lead

abbrev LeadBelow : ℕ → List Entry → Type 0
LeadBelow count entries = (n : ℕ) → IfSome (target (slice_get entries n)) (λ k. k < count)

lead_append : (n : ℕ) (xs ys : List Entry) → LeadBelow n xs → LeadBelow n ys → LeadBelow n (xs ++ ys)
lead_append n [] ys g h k = h k
lead_append n (x ∷ xs) ys g h zero = g 0
lead_append n (x ∷ xs) ys g h (suc k) = lead_append n xs ys (λ k. g (suc k)) h k

lead_item : (count : ℕ) (x : Item) → LeadsBelow count (Some x) → IfSome (target (Some (en.Item x))) (λ k. k < count)
lead_item count x h = grind arith

lead_items : (count : ℕ) (items : List Item) → ((n : ℕ) → LeadsBelow count (slice_get items n))
    → LeadBelow count (map en.Item items)
lead_items count [] h n = tt
lead_items count (x ∷ xs) h zero = lead_item count x (h 0)
lead_items count (x ∷ xs) h (suc n) = lead_items count xs (λ n. h (suc n)) n

lead_start : (count j : ℕ) (xs : List Entry) → LeadBelow count xs → LeadBelow count (en.Start (record { 0 = j }) ∷ xs)
lead_start count j xs h zero = tt
lead_start count j xs h (suc n) = h n

lead_entries : (pieces : List (List Item)) → AllLead pieces → (order : List ℕ)
    → LeadBelow (length pieces) (entries_from pieces order)
lead_entries pieces h [] n = tt
lead_entries pieces h (j ∷ js) n =
    lead_append (length pieces) (entries_in j (items_at pieces j)) (entries_from pieces js)
    (lead_start (length pieces) j (map en.Item (items_at pieces j))
    (lead_items (length pieces) (items_at pieces j) (λ m. rw (item_is pieces j m) at (h j
    m)))) (lead_entries pieces h js) n

-- ---- each piece starts once

distinct_before : (fs rs : List ℕ) (k : ℕ) → IsDistinct eqb (fs ++ k ∷ rs) → is_laid fs k ≡ false
unfolding IsDistinct
distinct_before [] rs k d = refl
distinct_before (j ∷ fs) rs k d = or_false (eqb k j) (is_laid fs k) (apart fs d.0) ∙ distinct_before fs rs k d.1
  where
    apart : (xs : List ℕ) → AllByRecursion (λ y. eqb j y ≡ false) (xs ++ k ∷ rs) → eqb k j ≡ false
    apart [] a = the_equality.symm k j ∙ a.0
    apart (x ∷ xs) a = apart xs a.1

pub before_absent : (pieces : List (List Item)) (order fs rs : List ℕ) (k : ℕ) → IsWhole pieces order
    → order ≡ fs ++ k ∷ rs → is_laid fs k ≡ false
before_absent pieces order fs rs k h e = distinct_before fs rs k (rw e at h.laying.distinct)

-- entry n is the start of a piece
abbrev IsStartAt : ℕ → List Entry → ℕ → Type 0
IsStartAt k xs n = slice_get xs n ≡ Some (en.Start (record { 0 = k }))

-- behind items it is one of the entries there
start_behind : (k : ℕ) (items : List Item) (xs : List Entry) (n : ℕ) → IsStartAt k (map en.Item items ++ xs) n
    → (m : ℕ) × (n ≡ length items + m) × IsStartAt k xs m
start_behind k [] xs n e = (n, omega arith, e)
start_behind k (x ∷ items) xs zero e = absurd (cc)
start_behind k (x ∷ items) xs (suc n) e =
    let h = start_behind k items xs n e in
    (h.0, omega (arith, h.1), h.2)

-- it is that of a piece that is laid, and the first of its starts
start_number : (pieces : List (List Item)) (order : List ℕ) → IsDistinct eqb order → (n k : ℕ)
    → IsStartAt k (entries_from pieces order) n
    → (is_laid order k ≡ true) × (start_of (entries_from pieces order) k ≡ n)
start_number pieces [] d n k e = absurd (cc)
start_number pieces (j ∷ js) d zero k e =
    let same : j ≡ k = ap piece_in e in
    rw same (ap (λ (b : Bool). b || is_laid js k) (eq-eqb k k refl), start_self k _)
start_number pieces (j ∷ js) d (suc n) k e =
    let b = start_behind k (items_at pieces j) (entries_from pieces js) n e in
    let h = start_number pieces js (distinct_tail j js d) b.0 k b.2 in
    let apart : eqb k j ≡ false = ne_eqb k j (λ (s : k ≡ j). false≢true (sym (absent_head j js d) ∙ ap (is_laid js)
    (sym s) ∙ h.0)) in (
      or_false (eqb k j) (is_laid js k) apart ∙ h.0,
      start_past k j (map en.Item (items_at pieces j) ++ entries_from pieces js) apart
          ∙ omega (arith, start_items k (items_at pieces j) (entries_from pieces js), h.1, b.1),
    )

start_inside : (pieces : List (List Item)) (order : List ℕ) (k : ℕ) → IsWhole pieces order → k < length pieces
    → start_of (entries_from pieces order) k < length (entries_from pieces order)
start_inside pieces order k whole l =
    let s = split_at order k (whole.once k l) in
    let e : start_of (entries_from pieces order) k ≡ start_of (entries_from pieces (s.before ++ k ∷ s.after)) k
    = ap (λ (xs : List ℕ). start_of (entries_from pieces xs) k) s.is in
    let f : length (entries_from pieces order) ≡ length (entries_from pieces s.before ++ entries_from pieces (k ∷
    s.after))
    = ap length (cc (s.is, from_append pieces s.before (k ∷ s.after))) in
    let both = length-append (entries_from pieces s.before) (entries_from pieces (k ∷ s.after)) in
    omega (arith, start_at pieces s.before s.after k s.absent, e, f, both)

pub are_listing : (pieces : List (List Item)) (order : List ℕ) → IsWhole pieces order → AllLead pieces
    → IsListing (entries_from pieces order) (length pieces)
are_listing pieces order whole leads = record {
  targets = lead_entries pieces leads order;
  inside = λ k l. start_inside pieces order k whole l;
  starts = λ n k e.
      let h = start_number pieces order whole.laying.distinct n k e in
      (laid_inside order (length pieces) k whole.laying.inside h.0, h.1);
}

-- How much room the compact layout needs.
use Rattle.layout.proofs.Common.{◌≡◌, ℕ, zero, suc, ◌+◌, ◌*◌, ◌^◌, ◌<◌, ◌≤◌, Bool, false, List, [], ◌∷◌, ◌++◌, length, map, get_or, take, slice_get, Option, Some, None, refl, ap, sym, ◌∙◌, arith, false≢true, false_from_ne_true, sum_by-cons, take_more, take_all, slice_get-get_or, slice_get_within, Item, Entry, AllLead, IsLaid, Placement, item_at, long_words, piece_words, short_words, size_of, compact_order, Forms, entries_in, entries_from, entries_of, far, far_from, goal_of, out_of_reach, offset, start_of, target, width, IsCompact, LongIsEnough, NeededOnce, ShortIsEnough, nat_tests}
use Rattle.layout.specs.declared.items.Item.TheVariants as it
use Rattle.layout.specs.declared.entries.Entry.TheVariants as en
use Rattle.layout.proofs.Offsets.{offset_none, offset_same}
use Rattle.layout.proofs.Laying.{exits_lead, item_is, whole_is}
use Rattle.layout.proofs.Listed.{items_at, weigh, weighs_less}
use Rattle.layout.proofs.Widening.{offset_more, widened_once}
use Rattle.layout.proofs.Assembled.{entry_is, entry_no, leads_to, next_entry, piece_at, size_is, start_still, step}

-- ---- one number

pub needed_once : NeededOnce
needed_once pieces bytes other a b =
    let e = offset_same (entries_of pieces) a.long b.long (length (entries_of pieces))
    (λ k _. widened_once (entries_of pieces) a.long b.long a.widened b.widened k) in
    a.value ∙ ap (λ (n : ℕ). 4 * n) e ∙ sym b.value

-- ---- no more than the long forms

abbrev full_width : Entry → ℕ
full_width (en.Start k) = 0
full_width (en.Item x) = long_words x

abbrev full : List Entry → ℕ
full [] = 0
full (x ∷ xs) = full_width x + full xs

full_append : (xs ys : List Entry) → full (xs ++ ys) ≡ full xs + full ys
full_append [] ys = omega arith
full_append (x ∷ xs) ys = let h = full_append xs ys in omega (arith, h)

width_low : (long : Bool) (x : Entry) (next : Option Entry) → width long (Some x) next ≤ full_width x
width_low long x next = grind arith

offset_low : (entries : List Entry) (long : Forms) (n : ℕ) → n ≤ length entries
    → offset entries long n ≤ full (take n entries)
offset_low entries long zero l = let e = offset_none entries long in omega (arith, e)
offset_low entries long (suc n) l =
    let m = offset_more entries long n in
    let g : slice_get entries n ≡ Some (get_or entries n (en.Item it.EndMark)) = slice_get-get_or entries n (en.Item
    it.EndMark) (omega arith) in
    let w = width_low (long n) (get_or entries n (en.Item it.EndMark)) (slice_get entries (suc n)) in
    let t : take (suc n) entries ≡ take n entries ++ get_or entries n (en.Item it.EndMark) ∷ []
    = (let s : suc n ≡ n + 1 = omega arith in cc (s, take_more entries n (en.Item it.EndMark) (omega arith))) in
    let same = ap (λ (z : Option Entry). width (long n) z (slice_get entries (suc n))) g in
    let parted = full_append (take n entries) (get_or entries n (en.Item it.EndMark) ∷ []) in
    omega (arith, offset_low entries long n (omega arith), m, w, same, ap full t, parted)

full_items : (items : List Item) → full (map en.Item items) ≡ piece_words items
full_items [] = refl
full_items (x ∷ xs) = let h = full_items xs in let s = sum_by-cons long_words x xs in omega (arith, h, s)

full_order : (pieces : List (List Item)) (order : List ℕ) → full (entries_from pieces order) ≡ weigh piece_words
    pieces order
full_order pieces [] = refl
full_order pieces (k ∷ ks) =
    let parted = full_append (entries_in k (items_at pieces k)) (entries_from pieces ks) in
    omega (arith, full_order pieces ks, parted, full_items (items_at pieces k))

pub long_is_enough : LongIsEnough
long_is_enough pieces bytes are n =
    let d = weighs_less piece_words refl pieces (compact_order pieces) (whole_is pieces (exits_lead pieces are.leads)) in
    let parted = offset_low (entries_of pieces) n.long (length (entries_of pieces)) (omega arith) in
    let same = ap full (take_all (length (entries_of pieces)) (entries_of pieces) (omega arith)) in
    omega (arith, n.value, parted, same, full_order pieces (compact_order pieces), d)

-- ---- short where all is near

not_far : (a b : ℕ) → a < 2 ^ 21 → b < 2 ^ 21 → far a b ≡ false
not_far a b l m = grind (arith, nat_tests)

short_low : (long : Bool) (x : Item) (next : Option Entry) → (target (Some (en.Item x)) ≡ None → ⊥) → long ≡ false
    → width long (Some (en.Item x)) next ≤ short_words x
short_low long x next t s = grind arith

module _ (pieces : List (List Item)) (base : ℕ) (p : Placement) (place : ℕ → ℕ → ℕ) (leads : AllLead pieces)
    (h : IsLaid pieces base p place) (c : IsCompact pieces base place) (small : 4 * length p.code < 2 ^ 23) where
  near : (k n : ℕ) → k < length pieces → n ≤ size_of pieces k
      → offset (entries_of pieces) c.long (entry_no pieces k n) < 2 ^ 21
  near k n l m = omega (arith, c.places k n l m, (h.within k n l m).ends, small)

  start_near : (k : ℕ) → k < length pieces → offset (entries_of pieces) c.long (start_of (entries_of pieces) k) < 2 ^ 21
  start_near k l = omega (arith, near k 0 l (omega arith), start_still pieces leads c.long k l)

  item_size : (k n : ℕ) (x : Item) → item_at pieces k n ≡ Some x → suc n ≤ size_of pieces k
  item_size k n x e = omega (arith, slice_get_within (items_at pieces k) n x (sym (item_is pieces k n) ∙ e), size_is pieces k)

  short : (k n : ℕ) (x : Item) → item_at pieces k n ≡ Some x → (to : ℕ) → target (Some (en.Item x)) ≡ Some to
      → to < length pieces → c.long (entry_no pieces k n) ≡ false
  short k n x e to t l =
      false_from_ne_true (c.long (entry_no pieces k n))
      (λ f. false≢true (sym reach ∙ c.widened.needed (entry_no pieces k n) f))
    where
      goal_is : goal_of (entries_of pieces) (entry_no pieces k n) ≡ Some (start_of (entries_of pieces) to)
      goal_is = cc (entry_is pieces leads k n x e, t)

      reach : out_of_reach (entries_of pieces) c.long (entry_no pieces k n) ≡ false
      reach =
          ap (far_from (entries_of pieces) c.long (entry_no pieces k n)) goal_is
          ∙ not_far _ _ (near k n (piece_at pieces k n x e).0 (let s = item_size k n x e in omega (arith, s)))
          (start_near to l)

  one_more : (k n : ℕ) (x : Item) → item_at pieces k n ≡ Some x
      → place k (suc n) ≡ place k n + 4 * width (c.long (entry_no pieces k n)) (Some (en.Item x)) (next_entry pieces k n)
  one_more k n x e =
      let q = (piece_at pieces k n x e).0 in
      let i = item_size k n x e in
      let more = step pieces leads c.long k n x e in
      omega (arith, c.places k n q (omega (arith, i)), c.places k (suc n) q i, more)

  all_short : (k n : ℕ) (x : Item) → item_at pieces k n ≡ Some x → place k (suc n) ≤ place k n + 4 * short_words x
  all_short k n (it.Jump to) e =
      let w = short_low (c.long (entry_no pieces k n)) (it.Jump to) (next_entry pieces k n) (λ
      t. cc) (short k n (it.Jump to) e to.0 refl (leads_to pieces leads k n (it.Jump to) e)) in
      omega (arith, one_more k n (it.Jump to) e, w)
  all_short k n (it.Branch b to) e =
      let w = short_low (c.long (entry_no pieces k n)) (it.Branch b to) (next_entry pieces k n)
      (λ t. cc) (short k n (it.Branch b to) e to.0 refl (leads_to pieces leads k n (it.Branch b to) e)) in
      omega (arith, one_more k n (it.Branch b to) e, w)
  all_short k n x e = omega (arith, one_more k n x e)

pub short_is_enough : ShortIsEnough
short_is_enough pieces base p place are h c small k n x e = all_short pieces base p place are.leads h c small k n x e

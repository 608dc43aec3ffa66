-- What was made is a layout.
use Rattle.layout.proofs.Common.{◌≡◌, ℕ, zero, suc, ◌+◌, ◌-◌, ◌*◌, ◌%◌, ◌^◌, ◌<◌, ◌≤◌, inl, inr, Bool, true, false, List, [], ◌∷◌, ◌++◌, length, map, slice_get, slice_index, Option, Some, None, refl, ap, sym, ◌∙◌, subst, append_assoc, arith, if◌then◌else◌, option_map, cases_lt, eqb-true, false≢true, get_or_past, length-append, length-map, slice_get-get_or, slice_get_within, PieceNo, NoteRange, Item, Placed, Entry, Placement, placement_of, note_range, item_at, size_of, range_in, range_of, open_in, is_jump, AllLead, LeadsBelow, AllMarked, AreMarked, Ascend, IsLaid, IsPlaceIn, Stands, Lays, compact_order, exit_at, jump_to, IsWhole, Forms, entries_in, entries_from, entries_of, far, leads_next, offset, start_of, target, width, IsWidened, IsCompact, address_of, addresses, or_zero, target_offset, ranges_from, IsEmitted, IsOffsets}
use Rattle.eel_base.specs.declared.numbers.Addr.{Addr}
use Rattle.layout.specs.declared.items.Item.TheVariants as it
use Rattle.layout.specs.declared.entries.Entry.TheVariants as en
use Rattle.layout.proofs.Laying.{exits_lead, follows, item_is, whole_is}
use Rattle.layout.proofs.Listed.{items_at, from_append, split_at, start_at, before_absent}
use Rattle.layout.proofs.Offsets.{offset_none}
use Rattle.layout.proofs.Widening.{offset_more, rises}
use Rattle.layout.proofs.Emitted.{near_enough}
use Rattle.layout.proofs.Standing.{code_length, get_rest, has_code, item_stands, GoesTo, IsNextAt, IsNearTo}
use Rattle.layout.proofs.Ranging.{ascend_from, seen, AreStill, piece_ranges, seen_both, count_more, order_ascends, order_finds, AllOf, AreFrom, all_then, from_next, one_of, piece_made}

-- all of it: its pieces have `starts` words before them
pub record IsMade (pieces : List (List Item)) (base : ℕ) (long : Forms) (starts : List ℕ) (p : Placed) : Type 0 where
  pub widened : IsWidened (entries_of pieces) long
  pub count : length starts ≡ length pieces
  pub offsets : IsOffsets (entries_of pieces) long starts
  pub emitted : IsEmitted base (entries_of pieces) long p.code.items (length (entries_of pieces))
  pub at : p.at.items ≡ addresses base starts
  pub ranges : p.ranges.items ≡ ranges_from (address_of base (entries_of pieces) long) 0 None (entries_of pieces)

-- ---- lists

get_item : (items : List Item) (ys : List Entry) (n : ℕ) (x : Item) → slice_get items n ≡ Some x
    → slice_get (map en.Item items ++ ys) n ≡ Some (en.Item x)
get_item [] ys n x e = absurd (cc)
get_item (y ∷ items) ys zero x e = let f : y ≡ x = cc in ap (λ (z : Item). Some (en.Item z)) f
get_item (y ∷ items) ys (suc n) x e = get_item items ys n x e

pub size_is : (pieces : List (List Item)) (k : ℕ) → size_of pieces k ≡ length (items_at pieces k)
size_is [] k = refl
size_is (items ∷ pieces) zero = refl
size_is (items ∷ pieces) (suc k) = size_is pieces k

pub piece_at : (pieces : List (List Item)) (k n : ℕ) (x : Item) → item_at pieces k n ≡ Some x
    → (k < length pieces) × (slice_get pieces k ≡ Some (items_at pieces k))
piece_at [] k n x e = absurd (cc)
piece_at (items ∷ pieces) zero n x e = (omega arith, refl)
piece_at (items ∷ pieces) (suc k) n x e = let h = piece_at pieces k n x e in (omega (arith, h.0), h.1)

marked_at : (pieces : List (List Item)) → AllMarked pieces → (k : ℕ) → AreMarked false (items_at pieces k)
marked_at [] h k = tt
marked_at (items ∷ pieces) h zero = h 0
marked_at (items ∷ pieces) h (suc k) = marked_at pieces (λ k. h (suc k)) k

no_jump : (o : Option Item) → is_jump o ≡ false → jump_to o ≡ None
no_jump (Some (it.Jump k)) e = absurd (false≢true (sym e))
no_jump _ e = refl

-- ---- where entries stand

-- an item's entry, and the one behind it
abbrev pub entry_no : List (List Item) → ℕ → ℕ → ℕ
entry_no pieces k n = start_of (entries_of pieces) k + 1 + n

abbrev pub next_entry : List (List Item) → ℕ → ℕ → Option Entry
next_entry pieces k n = slice_get (entries_of pieces) (suc (entry_no pieces k n))

module _ (pieces : List (List Item)) (leads : AllLead pieces) where
  whole : IsWhole pieces (compact_order pieces)
  whole = whole_is pieces (exits_lead pieces leads)

  -- a piece in the order, and what is before and behind it
  record IsAt (k : ℕ) : Type 0 where
    before : List ℕ
    after : List ℕ
    order : compact_order pieces ≡ before ++ k ∷ after
    start : start_of (entries_of pieces) k ≡ length (entries_from pieces before)
    entries : entries_of pieces ≡ entries_from pieces before ++ (en.Start (record { 0 = k }) ∷ (map en.Item (items_at
        pieces k) ++ entries_from pieces after))

  start_is : (k : ℕ) (before after : List ℕ) → compact_order pieces ≡ before ++ k ∷ after
      → start_of (entries_of pieces) k ≡ length (entries_from pieces before)
  start_is k before after e =
      cc (e, start_at pieces before after k (before_absent pieces (compact_order pieces) before after k whole e))

  is_at : (k : ℕ) (before after : List ℕ) → compact_order pieces ≡ before ++ k ∷ after → IsAt k
  is_at k before after e = record {
    before = before;
    after = after;
    order = e;
    start = start_is k before after e;
    entries = ap (entries_from pieces) e ∙ from_append pieces before (k ∷ after);
  }

  piece_is_at : (k : ℕ) → k < length pieces → IsAt k
  piece_is_at k l = let s = split_at (compact_order pieces) k (whole.once k l) in is_at k s.before s.after s.is

  -- an entry behind a piece's start
  entry_behind : (k : ℕ) (s : IsAt k) (n : ℕ) → slice_get (entries_of pieces) (start_of (entries_of pieces) k + 1 + n)
      ≡ slice_get (map en.Item (items_at pieces k) ++ entries_from pieces s.after) n
  entry_behind k s n =
      let e : start_of (entries_of pieces) k + 1 + n ≡ length (entries_from pieces s.before) + suc n = omega (
        arith,
        s.start,
      ) in
      rw (e, s.entries) (get_rest (entries_from pieces s.before) _ (suc n))

  pub entry_is : (k n : ℕ) (x : Item) → item_at pieces k n ≡ Some x
      → slice_get (entries_of pieces) (start_of (entries_of pieces) k + 1 + n) ≡ Some (en.Item x)
  entry_is k n x e =
      let s = piece_is_at k (piece_at pieces k n x e).0 in
      entry_behind k s n ∙ get_item (items_at pieces k) (entries_from pieces s.after) n x (sym (item_is pieces k n) ∙ e)

  pub start_entry : (k : ℕ) → k < length pieces → slice_get (entries_of pieces) (start_of (entries_of pieces) k) ≡
      Some (en.Start (record { 0 = k }))
  start_entry k l =
      let s = piece_is_at k l in
      let e : start_of (entries_of pieces) k ≡ length (entries_from pieces s.before) + 0 = omega (arith, s.start) in
      rw (e, s.entries) (get_rest (entries_from pieces s.before) _ 0)

  pub piece_inside : (k : ℕ) → k < length pieces
      → start_of (entries_of pieces) k + 1 + length (items_at pieces k) ≤ length (entries_of pieces)
  piece_inside k l =
      let s = piece_is_at k l in
      let b = length-append (entries_from pieces s.before) (en.Start (record { 0 = k }) ∷ (map en.Item (items_at
      pieces k) ++ entries_from pieces s.after)) in
      let both = length-append (map en.Item (items_at pieces k)) (entries_from pieces s.after) in
      omega (arith, ap length s.entries, b, both, length-map (items_at pieces k) en.Item, s.start)

  -- the piece behind another starts right behind its items
  next_start : (k j : ℕ) (s : IsAt k) (js : List ℕ) → s.after ≡ j ∷ js
      → start_of (entries_of pieces) j ≡ start_of (entries_of pieces) k + 1 + length (items_at pieces k)
  next_start k j s js e =
      let o : compact_order pieces ≡ (s.before ++ k ∷ []) ++ j ∷ js
      = cc (s.order, e, append_assoc s.before (k ∷ []) (j ∷ js)) in
      let same = ap length (from_append pieces s.before (k ∷ [])) in
      let both = length-append (entries_from pieces s.before) (entries_from pieces (k ∷ [])) in
      let joined = length-append (entries_in k (items_at pieces k)) [] in
      let mapped = length-map (items_at pieces k) en.Item in
      omega (arith, start_is j (s.before ++ k ∷ []) js o, same, both, joined, mapped, s.start)

  -- a Jump before the start of its piece
  jump_next : (k n : ℕ) (x : Item) (to : PieceNo) → item_at pieces k n ≡ Some x
      → leads_next to (slice_get (entries_of pieces) (suc (start_of (entries_of pieces) k + 1 + n))) ≡ true
      → suc (start_of (entries_of pieces) k + 1 + n) ≡ start_of (entries_of pieces) to.0
  jump_next k n x to e h = elim (cases_lt (suc n) (length (items_at pieces k))) [
    | inl l ↦
        absurd (false≢true (ap (leads_next to) (sym (get_item (items_at pieces k) (entries_from pieces s.after) (suc n) _
        (slice_get-get_or (items_at pieces k) (suc n) it.EndMark l))) ∙ behind))
    | inr l ↦
        let m : suc n ≡ length (items_at pieces k) = omega (arith, inside, l) in
        let i : suc n ≡ length (map en.Item (items_at pieces k)) + 0 = omega (arith, m, length-map (items_at pieces k) en.Item) in
        let g : leads_next to (slice_get (entries_from pieces s.after) 0) ≡ true
        = cc (get_rest (map en.Item (items_at pieces k)) (entries_from pieces s.after) 0, i, behind) in
        omega (arith, first s.after refl g, m)
  ]
    where
      at : k < length pieces
      at = (piece_at pieces k n x e).0

      inside : n < length (items_at pieces k)
      inside = slice_get_within (items_at pieces k) n x (sym (item_is pieces k n) ∙ e)

      s : IsAt k
      s = piece_is_at k at

      behind : leads_next to (slice_get (map en.Item (items_at pieces k) ++ entries_from pieces s.after) (suc n)) ≡ true
      behind =
          let f : suc (start_of (entries_of pieces) k + 1 + n) ≡ start_of (entries_of pieces) k + 1 + suc n = omega
          arith in
          cc (entry_behind k s (suc n), f, h)

      first : (after : List ℕ) → s.after ≡ after → leads_next to (slice_get (entries_from pieces after) 0) ≡ true
          → start_of (entries_of pieces) to.0 ≡ start_of (entries_of pieces) k + 1 + length (items_at pieces k)
      first [] f g = absurd (false≢true g)
      first (j ∷ js) f g = ap (start_of (entries_of pieces)) (eqb-true to.0 j g) ∙ next_start k j s js f

  pub leads_to : (k n : ℕ) (x : Item) → item_at pieces k n ≡ Some x → LeadsBelow (length pieces) (Some x)
  leads_to k n x e = rw e at (leads k n)

  module _ (long : Forms) where
    -- a start takes no word
    pub start_still : (k : ℕ) → k < length pieces
        → offset (entries_of pieces) long (entry_no pieces k 0)
        ≡ offset (entries_of pieces) long (start_of (entries_of pieces) k)
    start_still k l =
        let s = start_of (entries_of pieces) k in
        let e : entry_no pieces k 0 ≡ suc (start_of (entries_of pieces) k) = omega arith in
        let w : width (long s) (slice_get (entries_of pieces) s) (slice_get (entries_of pieces) (suc s)) ≡ 0
        = ap (λ (x : Option Entry). width (long s) x (slice_get (entries_of pieces) (suc s))) (start_entry k l) in
        ap (offset (entries_of pieces) long) e ∙ omega (arith, offset_more (entries_of pieces) long s, w)

    -- an item takes its width
    pub step : (k n : ℕ) (x : Item) → item_at pieces k n ≡ Some x
        → offset (entries_of pieces) long (entry_no pieces k (suc n)) ≡ offset (entries_of pieces) long (entry_no pieces k n)
        + width (long (entry_no pieces k n)) (Some (en.Item x)) (next_entry pieces k n)
    step k n x e =
        let next : entry_no pieces k (suc n) ≡ suc (entry_no pieces k n) = omega arith in
        let m = entry_no pieces k n in
        let own = ap (λ (z : Option Entry). width (long m) z (next_entry pieces k n)) (entry_is k n x e) in
        let more = offset_more (entries_of pieces) long m in
        omega (arith, ap (offset (entries_of pieces) long) next, more, own)

  fall_start : (k : ℕ) → suc k < length pieces → exit_at pieces k ≡ None
      → start_of (entries_of pieces) (suc k) ≡ start_of (entries_of pieces) k + 1 + length (items_at pieces k)
  fall_start k l none = go s.after refl next
    where
      s : IsAt k
      s = piece_is_at k (omega arith)

      few : length s.before < length pieces
      few = omega (arith, ap length s.order, length-append s.before (k ∷ s.after), whole.len)

      first : length s.before + 0 ≡ length s.before
      first = omega arith

      second : length s.before + 1 ≡ suc (length s.before)
      second = omega arith

      next : slice_get s.after 0 ≡ Some (suc k)
      next =
          sym (get_rest s.before (k ∷ s.after) 1) ∙ ap (slice_get (s.before ++ k ∷ s.after)) second
          ∙ ap (λ (xs : List ℕ). slice_get xs (suc (length s.before))) (sym s.order)
          ∙ follows pieces (exits_lead pieces leads) k (length s.before) l none few
          (cc (s.order, get_rest s.before (k ∷ s.after) 0, first))

      go : (after : List ℕ) → s.after ≡ after → slice_get after 0 ≡ Some (suc k)
          → start_of (entries_of pieces) (suc k) ≡ start_of (entries_of pieces) k + 1 + length (items_at pieces k)
      go [] e f = absurd (cc)
      go (j ∷ js) e f = let same : j ≡ suc k = cc f in ap (start_of (entries_of pieces)) (sym same) ∙ next_start k j s js e

-- ---- the layout

get_map : (f : ℕ → ℕ) (starts : List ℕ) (k : ℕ) → k < length starts
    → slice_index (map (λ (a : Addr). a.0) (map (λ n. record { 0 = f n }) starts)) k ≡ f (slice_index starts k)
get_map f [] k l = absurd (omega arith)
get_map f (n ∷ starts) zero l = refl
get_map f (n ∷ starts) (suc k) l = get_map f starts k (omega arith)

module _ (pieces : List (List Item)) (leads : AllLead pieces) (marked : AllMarked pieces) (base : ℕ) (aligned : base %
    4 ≡ 0) (long : Forms) (starts : List ℕ) (p : Placed) (h : IsMade pieces base long starts p)
    (low : base + 4 * offset (entries_of pieces) long (length (entries_of pieces)) ≤ 2 ^ 31) where
  abbrev entries : List Entry
  entries = entries_of pieces

  abbrev placed : Placement
  placed = placement_of p.code.items p.at.items p.ranges.items

  abbrev at : ℕ → ℕ
  at n = base + 4 * offset (entries_of pieces) long n

  -- the words before an item
  abbrev words_to : ℕ → ℕ → ℕ
  words_to k n = offset (entries_of pieces) long (entry_no pieces k n)

  abbrev place : ℕ → ℕ → ℕ
  place k n = base + 4 * words_to k n

  up : (n : ℕ) → at n ≤ at (suc n)
  up n = let r = rises entries long n (suc n) (omega arith) in omega (arith, r)

  pub size : length p.code.items ≡ offset (entries_of pieces) long (length (entries_of pieces))
  size = ap length h.emitted.is ∙ code_length base entries long (length (entries_of pieces))

  at_is : placed.at ≡ map (λ (a : Addr). a.0) (addresses base starts)
  at_is = ap (map (λ (a : Addr). a.0)) h.at

  ranges_are : placed.ranges ≡ seen (ranges_from (address_of base entries long) 0 None entries)
  ranges_are = ap (map note_range) h.ranges

  count_is : length placed.at ≡ length pieces
  count_is =
      length-map p.at.items (λ (a : Addr). a.0) ∙ ap length h.at ∙ length-map starts (λ n. record { 0 = base + 4 * n })
      ∙ h.count

  start_value : (k : ℕ) → k < length pieces → slice_index placed.at k ≡ base + 4 * offset entries long (start_of entries k)
  start_value k l =
      let m : k < length starts = omega (arith, h.count, l) in
      cc (at_is, get_map (λ n. base + 4 * n) starts k m, h.offsets.each k m)

  starts_are : (k : ℕ) → k < length pieces → slice_index placed.at k ≡ place k 0
  starts_are k l = let e = start_still pieces leads long k l in let v = start_value k l in omega (arith, e, v)

  offset_low : (n : ℕ) → n ≤ length (entries_of pieces) → base + 4 * offset (entries_of pieces) long n ≤ 2 ^ 31
  offset_low n l = let r = rises entries long n (length (entries_of pieces)) l in omega (arith, r, low)

  start_low : (k : ℕ) → (slice_index placed.at k % 4 ≡ 0) × (slice_index placed.at k ≤ 2 ^ 31)
  start_low k = elim (cases_lt k (length pieces)) [
    | inl l ↦
        let v = start_value k l in
        let w = offset_low (start_of entries k) (omega (arith, piece_inside pieces leads k l)) in
        (omega (arith, v, aligned), omega (arith, v, w))
    | inr l ↦
        let v : slice_index placed.at k ≡ 0 = get_or_past placed.at k 0 (omega (arith, count_is, l)) in
        (omega (arith, v), omega (arith, v))
  ]

  within : (k n : ℕ) → k < length pieces → n ≤ size_of pieces k → IsPlaceIn base placed (place k n)
  within k n l m =
      let i = piece_inside pieces leads k l in
      let z = size_is pieces k in
      let r = rises entries long (start_of entries k + 1 + n) (length (entries_of pieces)) (omega (arith, i, z, m)) in
      record { begins = omega arith; ends = omega (arith, r, size); aligned = omega (arith, aligned) }

  -- the words before the piece to which an item leads
  abbrev goal_words : ℕ → ℕ → ℕ
  goal_words k n = or_zero (target_offset (entries_of pieces) long (entry_no pieces k n))

  goal_is : (k n : ℕ) (x : Item) (o : Option ℕ) → item_at pieces k n ≡ Some x → target (Some (en.Item x)) ≡ o
      → goal_words k n ≡ or_zero (option_map (offset entries long) (option_map (start_of entries) o))
  goal_is k n x o e t = cc (entry_is pieces leads k n x e, t)

  goes : (k n : ℕ) (x : Item) → item_at pieces k n ≡ Some x → GoesTo base placed x (goal_words k n)
  goes k n (it.Jump to) e =
      omega (arith, goal_is k n (it.Jump to) (Some to.0) e refl, start_value to.0 (leads_to pieces leads k n (it.Jump to) e))
  goes k n (it.Branch c to) e =
      let there = start_value to.0 (leads_to pieces leads k n (it.Branch c to) e) in
      omega (arith, goal_is k n (it.Branch c to) (Some to.0) e refl, there)
  goes k n _ e = tt

  goal_low : (k n : ℕ) (x : Item) → item_at pieces k n ≡ Some x → base + 4 * goal_words k n ≤ 2 ^ 31
  goal_low k n (it.Jump to) e =
      let i = piece_inside pieces leads to.0 (leads_to pieces leads k n (it.Jump to) e) in
      let below = offset_low (start_of entries to.0) (omega (arith, i)) in
      omega (arith, goal_is k n (it.Jump to) (Some to.0) e refl, below)
  goal_low k n (it.Branch c to) e =
      let i = piece_inside pieces leads to.0 (leads_to pieces leads k n (it.Branch c to) e) in
      let below = offset_low (start_of entries to.0) (omega (arith, i)) in
      omega (arith, goal_is k n (it.Branch c to) (Some to.0) e refl, below)
  goal_low k n x e = let g = goal_is k n x None e refl in omega (arith, g, low)

  -- a Jump takes no word where its target starts right behind it
  here : (k n : ℕ) (to : PieceNo) → item_at pieces k n ≡ Some (it.Jump to)
      → leads_next to (next_entry pieces k n) ≡ true → words_to k n ≡ goal_words k n
  here k n to e b =
      let c = ap (λ (z : Option Entry). width (long (entry_no pieces k n)) z (next_entry pieces k n))
      (entry_is pieces leads k n (it.Jump to) e) in
      let w : width (long (entry_no pieces k n)) (Some (en.Item (it.Jump to))) (next_entry pieces k n) ≡ 0
      = ap (λ (z : Bool). if z then 0 else (if long (entry_no pieces k n) then 4 else 1)) b in
      let same = ap (offset entries long) (jump_next pieces leads k n (it.Jump to) to e b) in
      omega (arith, same, offset_more entries long (entry_no pieces k n), c, w, goal_is k n (it.Jump to) (Some to.0) e refl)

  nexts : (k n : ℕ) (x : Item) → item_at pieces k n ≡ Some x
      → IsNextAt base placed x (next_entry pieces k n) (words_to k n) (goal_words k n)
  nexts k n (it.Jump to) e = here k n to e
  nexts k n _ e = tt

  near : (k n : ℕ) (to : ℕ) → target (slice_get (entries_of pieces) (entry_no pieces k n)) ≡ Some to
      → long (entry_no pieces k n) ≡ false
      → far (words_to k n) (goal_words k n) ≡ false
  near k n to t short =
      let o : target_offset entries long (entry_no pieces k n) ≡ Some (offset entries long (start_of entries to))
      = ap (λ (o : Option ℕ). option_map (offset entries long) (option_map (start_of entries) o)) t in
      let f = near_enough entries long (entry_no pieces k n) h.widened.none_left short in
      cc (o, f)

  nears : (k n : ℕ) (x : Item) → item_at pieces k n ≡ Some x
      → IsNearTo base placed x (long (entry_no pieces k n)) (words_to k n) (goal_words k n)
  nears k n (it.Jump to) e = near k n to.0 (ap target (entry_is pieces leads k n (it.Jump to) e))
  nears k n (it.Branch c to) e = near k n to.0 (ap target (entry_is pieces leads k n (it.Branch c to) e))
  nears k n _ e = tt

  items : (k n : ℕ) (x : Item) → item_at pieces k n ≡ Some x → Stands base placed x (place k n) (place k (suc n))
  items k n x e =
      let i = piece_inside pieces leads k (piece_at pieces k n x e).0 in
      let g = slice_get_within (items_at pieces k) n x (sym (item_is pieces k n) ∙ e) in
      let l : entry_no pieces k n < length (entries_of pieces) = omega (arith, i, g) in
      let t = step pieces leads long k n x e in
      item_stands base placed x (next_entry pieces k n) (long (entry_no pieces k n)) (words_to k n) (goal_words k n)
      (place k n) (place k (suc n)) refl (omega (arith, t)) (offset_low (entry_no pieces k n) (omega (arith, l))) (goal_low k
      n x e) (cc (entry_is pieces leads k n x e, h.emitted.conditions (entry_no pieces k n) l))
      (goes k n x e) (nexts k n x e) (nears k n x e)
      (λ j w f. ap (λ (ws : List ℕ). slice_get ws (words_to k n + j)) h.emitted.is
      ∙ has_code base entries long (length (entries_of pieces)) (entry_no pieces k n) l j w
      (cc (entry_is pieces leads k n x e, f)))

  falls : (k : ℕ) → suc k < length pieces → is_jump (item_at pieces k (size_of pieces k - 1)) ≡ false
      → place k (size_of pieces k) ≡ place (suc k) 0
  falls k l j =
      let z = size_is pieces k in
      let none : exit_at pieces k ≡ None
      = ap jump_to (cc (item_is pieces k (length (items_at pieces k) - 1), z))
      ∙ no_jump (item_at pieces k (size_of pieces k - 1)) j in
      let same = ap (λ (m : ℕ). words_to k m) z in
      let start = start_still pieces leads long (suc k) l in
      omega (arith, ap (offset entries long) (fall_start pieces leads k l none), start, same)

  -- Marks take no room
  mark_still : (k n : ℕ) (x : Item) → item_at pieces k n ≡ Some x
      → ((long : Bool) (next : Option Entry) → width long (Some (en.Item x)) next ≡ 0) → place k (suc n) ≡ place k n
  mark_still k n x e w =
      omega (arith, step pieces leads long k n x e, w (long (entry_no pieces k n)) (next_entry pieces k n))

  still_from : (k : ℕ) (xs : List Item) (i : ℕ) → AreFrom pieces k xs i → AreStill (place k) i xs
  still_from k [] i are = tt
  still_from k (it.Mark a m ∷ xs) i are = (
    mark_still k i (it.Mark a m) (are 0 i _ (omega arith) refl) (λ long next. refl),
    still_from k xs (suc i) (from_next pieces k _ xs i are),
  )
  still_from k (it.EndMark ∷ xs) i are = (
    mark_still k i it.EndMark (are 0 i _ (omega arith) refl) (λ long next. refl),
    still_from k xs (suc i) (from_next pieces k _ xs i are),
  )
  still_from k (_ ∷ xs) i are = still_from k xs (suc i) (from_next pieces k _ xs i are)

  items_are : (k : ℕ) → AreFrom pieces k (items_at pieces k) 0
  items_are k j m x e f = cc ((let g : m ≡ j = omega (arith, e) in g), item_is pieces k j, f)

  still : (k : ℕ) → AreStill (place k) 0 (items_at pieces k)
  still k = still_from k (items_at pieces k) 0 (items_are k)

  ranges : (k n a : ℕ) (x : Item) → item_at pieces k n ≡ Some x → place k n ≤ a → a < place k (suc n)
      → range_in placed.ranges a ≡ range_of (place k) (open_in (slice_get pieces k) n)
  ranges k n a x e l m =
      let q = piece_at pieces k n x e in
      let s = piece_is_at pieces leads k q.0 in
      ap (λ (rs : List NoteRange). range_in rs a) ranges_are
      ∙ ap (λ (xs : List ℕ). range_in (seen (ranges_from (address_of base entries long) 0 None (entries_from pieces
      xs))) a) s.order
      ∙ order_finds at up pieces (marked_at pieces marked) s.before s.after 0 (start_of entries k) k n a x
      (let st = s.start in omega (arith, st)) (still k) (sym (item_is pieces k n) ∙ e) l m
      ∙ ap (λ (o : Option (List Item)). range_of (place k) (open_in o n)) (sym q.1)

  end_is : base + 4 * length p.code.items ≡ base + 4 * offset (entries_of pieces) long (length (entries_of pieces))
  end_is = let s = size in omega (arith, s)

  ascend : Ascend base (base + 4 * length placed.code) placed.ranges
  ascend =
      rw (ranges_are, end_is) (ascend_from (at 0) _ base _ (omega (arith, offset_none entries long))
      (order_ascends at up pieces (marked_at pieces marked) (compact_order pieces) 0 (length (entries_of pieces)) (omega arith)))

  order_made : (ks before : List ℕ) (c : ℕ) → compact_order pieces ≡ before ++ ks
      → c ≡ length (entries_from pieces before)
      → AllOf pieces place (seen (ranges_from at c None (entries_from pieces ks)))
  order_made [] before c o e = tt
  order_made (k ∷ ks) before c o e =
      let same : start_of (entries_of pieces) k ≡ c = start_is pieces leads k before ks o ∙ sym e in
      let n = count_more at up pieces (marked_at pieces marked) k [] in
      let f = ap length (from_append pieces before (k ∷ [])) in
      let g = length-append (entries_from pieces before) (entries_from pieces (k ∷ [])) in
      subst (AllOf pieces place) (sym (seen_both at up pieces (marked_at pieces marked) c k ks))
      (all_then pieces place (seen (piece_ranges (λ n. at (c + 1 + n)) 0 None (items_at pieces k))) _
      (subst (λ (z : ℕ). AllOf pieces place (seen (piece_ranges (λ n. at (z + 1 + n)) 0 None (items_at pieces k)))) same
      (piece_made pieces place (items_at pieces k) k 0 None (items_are k) (still k) tt))
      (order_made ks (before ++ k ∷ []) (c + 1 + length (items_at pieces k))
      (o ∙ sym (append_assoc before (k ∷ []) ks)) (omega (arith, n, f, g, e))))

  pub laid : IsLaid pieces base placed place
  laid = record {
    low = (let e = end_is in omega (arith, e, low));
    count = count_is;
    starts = starts_are;
    aligned = start_low;
    items = items;
    falls = falls;
    within = within;
    ranges = ranges;
    ascend = ascend;
    marks = λ n r e. one_of pieces place (seen (ranges_from at 0 None entries)) n r
        (order_made (compact_order pieces) [] 0 refl refl) (cc (ranges_are, e));
  }

  pub lays : Lays IsCompact pieces base placed
  lays = (place, laid, record { long = long; widened = h.widened; places = λ k n l m. refl })

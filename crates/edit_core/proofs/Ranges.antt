-- What laid code has: words, and ranges that notes may have.
use Rattle.edit_core.proofs.Common.{◌≡◌, ℕ, zero, suc, ◌+◌, ◌*◌, ◌%◌, ◌^◌, ◌<◌, ◌≤◌, true, nat_lt, nat_le, Option, Some, None, List, [], ◌∷◌, ◌++◌, length, map, refl, ap, sym, ◌∙◌, arith, cond, slice_get, flat_map, list_any, le-leb, le-ltb, lt-ltb, nat_tests, slice_get_within, Words, address_of, IsText, NoteSegment, NoteRange, holds, are_ranges, Graph, Each, Item, Ascend, IsLaid, IsRangeOf, Placement, item_at, range_in, piece_list, IsGraphOf, each_index, option_map, slice_get-map, item_in, items_in, range_of, open_in, end_from, Foreign, piece_number, shape_list, foreign_stands, shape_at, text_graph, piece_shaped, ends_by}
use Rattle.layout.specs.declared.items.Item.TheVariants as it
use Rattle.image_code.specs.declared.shape.SourceWord.{SourceWord}
use Rattle.image_code.specs.Shapes.{exit_items, items_of, mark_items}
use Rattle.image_code.proofs.Shapes.{first_mark, first_of}
use Rattle.edit_core.proofs.Graphs.{IsNumber, number_of}
use Rattle.edit_core.proofs.Fronts.{passed}
use Rattle.std.proofs.lemmas.Option.{same_Some}

-- ---- ranges one after the other

-- a range is found by its first address
found : (from to : ℕ) (rs : List NoteRange) → Ascend from to rs → (n : ℕ) (r : NoteRange) → slice_get rs n ≡ Some r
    → (from ≤ r.lo) × (range_in rs r.lo ≡ Some r)
found from to [] a n r e = absurd (cc)
found from to (x ∷ rs) a zero r e =
    let same : x ≡ r = cc in
    (rw same at a.0, rw (← same, le-leb x.lo x.lo (omega arith), lt-ltb x.lo x.hi a.1) refl)
found from to (x ∷ rs) a (suc n) r e =
    let (low, some, rest) = a in
    let later = found x.hi to rs rest n r e in
    (omega (arith, later.0), passed (nat_le x.lo r.lo) (nat_lt r.lo x.hi) x _ (le-ltb r.lo x.hi later.0) ∙ later.1)

-- ---- ranges of whole words

pub record IsWhole (graph : Graph) (r : NoteRange) : Type 0 where
  pub lo : r.lo % 4 ≡ 0
  pub hi : r.hi % 4 ≡ 0
  pub address : r.address % 4 ≡ 0
  pub low : r.address < 2 ^ 31
  pub node : IsNumber graph r.node

-- they meet the rules of notes, where a page holds them
pub ranges_rule : (graph : Graph) (segments : List NoteSegment) (end from to : ℕ) (rs : List NoteRange)
    → Ascend from to rs → Each (IsWhole graph) rs → end ≤ from
    → ((lo hi : ℕ) → from ≤ lo → hi ≤ to → list_any (holds lo hi) segments ≡ true)
    → are_ranges (length graph.blocks.firsts) segments end rs ≡ true
ranges_rule graph segments end from to [] a w e held = refl
ranges_rule graph segments end from to (r ∷ rs) a w e held =
    let (from_lo, some, rest) = a in
    let (whole, others) = w in
    let few = whole.node.few in
    let here = held r.lo r.hi from_lo (ends_by rs r.hi to rest) in
    let later = ranges_rule graph segments r.hi r.hi to rs rest others (omega arith)
    (λ lo hi from_hi to_end. held lo hi (omega arith) to_end) in
    grind (arith, nat_tests, whole.lo, whole.hi, whole.address)

-- ---- the ranges of laid pieces

ends_inside : (items : List Item) (n : ℕ) → end_from items n ≤ n + length items
ends_inside [] n = omega arith
ends_inside (x ∷ items) n = let later = ends_inside items (suc n) in grind (arith, cond)

module _ (text : Words) (graph : Graph) (table cases : ℕ) (codes : ℕ → List ℕ) (is : IsText text)
    (h : IsGraphOf text graph) (base : ℕ) (p : Placement) (place : ℕ → ℕ → ℕ)
    (laid : IsLaid (piece_list text graph table cases codes) base p place) where
  abbrev pieces : List (List Item)
  pieces = piece_list text graph table cases codes

  some_piece : (k n : ℕ) (x : Item) → (o : Option (List Item)) → slice_get pieces k ≡ o → item_in o n ≡ Some x
      → (items : List Item) × (slice_get pieces k ≡ Some items) × (slice_get items n ≡ Some x)
  some_piece k n x None e i = absurd (cc)
  some_piece k n x (Some items) e i = (items, e, i)

  pub ranges_whole : Each (IsWhole graph) p.ranges
  ranges_whole = each_index _ p.ranges (λ n r e.
      let m : IsRangeOf pieces place r = laid.marks n r e in
      let k = m.piece in
      let items = some_piece k m.item (it.Mark m.address r.node) (slice_get pieces k) refl m.mark in
      let s = piece_shaped text graph table cases codes is h k items.0 items.1 in
      let first = first_mark codes s.0 s.2 m.item m.address r.node (rw s.1 at items.2) in
      let its = first.visit in
      let f = first_of base p m.address first.head its.some in
      let tail = map it.Word (flat_map codes s.0.edges) ++ exit_items s.0.exit in
      let rest = f.rest ++ it.EndMark ∷ tail in
      let piece : slice_get pieces k ≡ Some (it.Mark m.address r.node ∷ f.item ∷ rest) =
      items.1 ∙ ap (λ (xs : List Item). Some xs) (s.1 ∙ ap (λ mark. mark_items mark tail) first.is
      ∙ ap (λ xs. it.Mark m.address r.node ∷ (xs ++ it.EndMark ∷ tail)) f.is) in
      let lo : r.lo ≡ place k 1 = m.lo ∙ ap (λ z. place k (suc z)) first.first in
      let inside : k < length pieces = slice_get_within pieces k _ piece in
      let at : item_at pieces k 1 ≡ Some f.item = ap (λ o. item_in o 1) piece in
      let wide : place k 1 < place k 2 = f.room (place k 1) (place k 2) (laid.items k 1 f.item at) in
      let there = laid.ranges k 1 r.lo f.item at (omega (arith, lo)) (omega (arith, lo, wide)) in
      let end = end_from (f.item ∷ rest) 1 in
      let both : Some r ≡ range_of (place k) (open_in (Some (it.Mark m.address r.node ∷ f.item ∷ rest)) 1) =
      sym (found base (base + 4 * length p.code) p.ranges laid.ascend n r e).1 ∙ there
      ∙ ap (λ o. range_of (place k) (open_in o 1)) piece in
      let same : r ≡ record { lo = place k 1; hi = place k end; address = m.address.0; node = r.node } = same_Some _ _ both in
      let size : items_in (slice_get pieces k) ≡ suc (suc (length rest)) = ap items_in piece in
      let last = laid.within k end inside (omega (arith, size, ends_inside (f.item ∷ rest) 1)) in
      let from : m.address.0 ≡ address_of text its.word = ap (λ (x : SourceWord). x.address.0) its.is in
      let node = ap (λ (x : SourceWord). x.node) its.is in
      record {
        lo = ap (λ z. z % 4) lo ∙ (laid.within k 1 inside (omega (arith, size))).aligned;
        hi = ap (λ (z : NoteRange). z.hi % 4) same ∙ last.aligned;
        address = omega (arith, m.says, from, is.aligned);
        low = omega (arith, m.says, from, is.below, its.at.low);
        node = rw node (number_of graph its.node its.at.inside);
      })

  -- ---- how many words there are

  pub some_code : 0 < length p.code
  some_code =
      let facts = text_graph text graph is h in
      let k = piece_number text graph Foreign in
      let shape = shape_at text graph facts table cases Foreign _ (foreign_stands text graph facts) in
      let word = (laid.items k 0 (it.Word _) (ap (λ o. item_in o 0) (slice_get-map (items_of codes)
      (shape_list text graph table cases) k ∙ ap (option_map (items_of codes)) shape))).1 in
      omega (arith, slice_get_within p.code word.0 _ word.2)

-- What stands in a Mark at the beginning of a piece, and a machine that visits it.
use Rattle.image_code.proofs.Common.{◌≡◌, ℕ, zero, suc, ◌+◌, ◌*◌, ◌^◌, ◌<◌, ◌≤◌, inl, inr, Option, Some, None, List, [], ◌∷◌, ◌++◌, length, map, add-zero, refl, ap, sym, ◌∙◌, arith, cases_lt, eq-eqb, ne_eqb, slice_get, slice_get-get_or, get_or, length-append, length-map, Addr, NoteRange, Instr, code_of, State, Node, Point, word_of, words_of, Item, item_at, item_in, open_in, range_in, range_of, IsPageWord, HasWords, IsBetween, open_from, Exit, Head, exit_items, head_items, IsOnWay, IsThere, number_in, cells_in}
use Rattle.layout.specs.declared.items.Item.TheVariants as it
use Rattle.layout.specs.Laid.{OpenMark as Open, IsPlaceIn, size_of, end_from}
use Rattle.image_code.proofs.Points.{Site, Visit}
use Rattle.image_code.proofs.PointShapes.{IsMarked, visits_it}
use Rattle.image_code.proofs.Cells.{IsNoted, cells_above, page_above}
use Rattle.image_code.proofs.Positions.{get_first, get_second}
use Rattle.image_code.proofs.Routes.{AreUnmarked, head_unmarked, items_at, length_words, shape_within, words_laid, words_on}

-- ---- the items

ends_at : (items rest : List Item) (n : ℕ) → AreUnmarked items
    → end_from (items ++ it.EndMark ∷ rest) n ≡ n + length items
ends_at [] rest n are = omega arith
ends_at (it.Mark a b ∷ items) rest n are = absurd are
ends_at (it.EndMark ∷ items) rest n are = absurd are
ends_at (x ∷ items) rest n are =
    ends_at items rest (suc n) are ∙ (let e : suc n + length items ≡ n + suc (length items) = omega arith in e)

open_at : (items rest : List Item) (n j : ℕ) (o : Option Open) → AreUnmarked items → j < length items
    → open_from (items ++ rest) n j o ≡ o
open_at [] rest n j o are low = absurd (omega (arith, low))
open_at (x ∷ items) rest n zero o are low = refl
open_at (it.Mark a b ∷ items) rest n (suc j) o are low = absurd are
open_at (it.EndMark ∷ items) rest n (suc j) o are low = absurd are
open_at (x ∷ items) rest n (suc j) o are low = open_at items rest (suc n) j o are (omega (arith, low))

-- ---- a visit

-- A machine at the first of so many words in a Mark: it runs them, the states between them are on the way, and behind
-- them the piece goes on.
pub record AtWords (site : Site) (node : Node) (x : Point) (t : State) (k count : ℕ) (ws : List ℕ) : Type 0 where
  pub at : t.pc ≡ site.place k 1
  pub low : t.pc + 4 * count ≤ 2 ^ 31
  pub behind : site.place k (suc (suc count)) ≡ t.pc + 4 * count
  pub next : 0 < count → t.npc ≡ t.pc + 4
  pub words : HasWords (code_of t.memory) t.pc ws
  pub on : (u : State) → IsBetween t count IsPageWord u → u.ending ≡ None → IsOnWay site.g t u
  pub there : (u : State) → t.pc ≤ u.pc → u.pc < t.pc + 4 * count → IsThere site.g t u

module _ (visit : Visit) (head : Addr → ℕ → Head) (edges : List ℕ) (exit : Exit)
    (c : IsMarked visit.site visit.node visit.x head edges exit) where
  open visit use {site, node, x, t, here, site.{g, l, base, p, place, placed}}

  -- ---- whatever stands in the Mark

  abbrev pub inside : List Item
  inside = head_items c.address (head c.address c.word)

  abbrev rest : List Item
  rest = words_on l edges ++ exit_items exit

  -- the number of the Mark's end
  abbrev pub last : ℕ
  last = suc (length inside)

  is : slice_get l.list c.piece ≡ Some (it.Mark c.address (number_in g node) ∷ (inside ++ it.EndMark ∷ rest))
  is = items_at site c.piece _ c.shape

  item_is : (n : ℕ) → item_at l.list c.piece n
      ≡ slice_get (it.Mark c.address (number_in g node) ∷ (inside ++ it.EndMark ∷ rest)) n
  item_is n = ap (λ (v : Option (List Item)). item_in v n) is

  pub at_first : t.pc ≡ place c.piece 1
  at_first = here.at ∙ c.here ∙ placed.laid.starts c.piece (shape_within site c.piece _ c.shape)
      ∙ sym (placed.laid.items c.piece 0 (it.Mark c.address (number_in g node)) (item_is 0))

  pub closes : place c.piece (suc last) ≡ place c.piece last
  closes =
      placed.laid.items c.piece last it.EndMark
      (item_is last ∙ rw add-zero at (get_second inside (it.EndMark ∷ rest) 0))

  pub lies : (n : ℕ) → n ≤ suc last → IsPlaceIn base p (place c.piece n)
  lies n few =
      let size : size_of l.list c.piece ≡ 2 + length inside + length rest =
      rw is (omega (arith, length-append inside (it.EndMark ∷ rest))) in
      placed.laid.within c.piece n (shape_within site c.piece _ c.shape) (omega (arith, size, few))

  -- ---- its range

  abbrev range : NoteRange
  range = record { lo = place c.piece 1; hi = place c.piece last; address = c.address.0; node = number_in g node }

  in_range : (n : ℕ) → n ≤ length inside → (a : ℕ) → place c.piece 1 ≤ a → a < place c.piece (suc n)
      → range_in p.ranges a ≡ Some range
  in_range zero few a from below = absurd (omega (arith, from, below))
  in_range (suc n) few a from below = elim (cases_lt a (place c.piece (suc n))) [
    | inl l ↦ in_range n (omega (arith, few)) a from l
    | inr m ↦
        let low : n < length inside = omega (arith, few) in
        let unmarked = head_unmarked c.address (head c.address c.word) in
        let opened = ap (λ (v : Option (List Item)). open_in v (suc n)) is
        ∙ open_at inside (it.EndMark ∷ rest) 1 n _ unmarked low
        ∙ ap (λ n. Some (record { first = 1; last = n; address = c.address.0; node = number_in g node }))
        (ends_at inside rest 1 unmarked ∙ (let e : 1 + length inside ≡ last = omega arith in e)) in
        placed.laid.ranges c.piece (suc n) a (get_or inside n it.EndMark)
        (item_is (suc n) ∙ get_first inside _ n _ (slice_get-get_or inside n it.EndMark low)) m below
        ∙ ap (range_of (place c.piece)) opened
  ]

  -- the addresses of its first items
  in_mark : (n : ℕ) → n ≤ length inside → (a : ℕ) → t.pc ≤ a → a < place c.piece (suc n) → IsNoted site (Some range) a
  in_mark n few a from below =
      let above : base ≤ a = omega (arith, at_first, from, (lies 1 (omega arith)).begins) in
      let low : a < base + 4 * length p.code = omega (arith, below, (lies (suc n) (omega (arith, few))).ends) in (
        placed.noted.ranges a above low ∙ in_range n few a (omega (arith, at_first, from)) below,
        placed.noted.inside a above low,
      )

  pub visits_first : (n : ℕ) → n ≤ length inside → t.pc < place c.piece (suc n) → visits_it g node x t
  visits_first n few some =
      let there = in_mark n few t.pc (omega arith) some in
      let first = eq-eqb (place c.piece 1) t.pc (sym at_first) in
      (rw (here.live, there.0, first) (ap (λ z. Some z) c.original), rw there.0)

  pub on_mark : (u : State) → t.pc < u.pc → u.pc < place c.piece last → cells_in g.notes u ≡ cells_in g.notes t
      → u.ending ≡ None → IsOnWay g t u
  on_mark u past before same live =
      let all = in_mark (length inside) (omega arith) in
      let from = all t.pc (omega arith) (omega (arith, past, before)) in
      let to = all u.pc (omega (arith, past)) before in
      let other = ne_eqb (place c.piece 1) u.pc (λ e. absurd (omega (arith, at_first, past))) in
      record { live = live; visit = rw (live, to.0, other); place = λ q e. (from.0 ∙ sym to.0 ∙ e, same) }

  -- ---- words

  pub at_words : (ws : List ℕ) → head_items c.address (head c.address c.word) ≡ map it.Word ws
      → AtWords site node x t c.piece (length ws) ws
  at_words ws same =
      let many : length inside ≡ length ws = ap length same ∙ length_words ws in
      let laid = words_laid site t.memory here.memory.code c.piece 1 ws (it.EndMark ∷ rest) (λ j.
      let e : 1 + j ≡ suc j = omega arith in
      rw e (item_is (suc j)) ∙ ap (λ (items : List Item). slice_get (items ++ it.EndMark ∷ rest) j) same) in
      let at : t.pc ≡ place c.piece 1 = at_first in
      let next : 1 + length ws ≡ suc (length ws) = omega arith in
      let end : place c.piece last ≡ t.pc + 4 * length ws = rw (many, ← next) (omega (arith, at, laid.1)) in
      let ends = (lies last (omega arith)).ends in
      let low = placed.laid.low in
      record {
        at = at;
        low = omega arith;
        behind = ap (λ n. place c.piece (suc (suc n))) (sym many) ∙ closes ∙ end;
        next = λ some. omega (arith, here.npc);
        words = rw at laid.0;
        on = λ u z. on_mark u z.past (omega (arith, z.before, end))
            (cells_above site IsPageWord page_above t.memory u.memory here.memory.ours z.stores);
        there = λ u from below.
            let all = in_mark (length inside) (omega arith) in
            let first = all t.pc (omega arith) (omega (arith, from, below, end)) in
            let its = all u.pc from (omega (arith, below, end)) in
            record { range = its.0 ∙ sym first.0; page = its.1 ∙ sym first.1 };
      }

  -- words of instructions
  pub at_instrs : (xs : List Instr) → head_items c.address (head c.address c.word) ≡ map it.Word (words_of xs)
      → AtWords site node x t c.piece (length xs) (words_of xs)
  at_instrs xs same = rw (← length-map xs word_of) (at_words (words_of xs) same)

-- Each point outside the pages has a place: its piece begins with its Mark, or it lies outside the text.
use Rattle.image_code.proofs.Common.{◌≡◌, ℕ, inl, Bool, true, false, Option, Some, None, List, length, arith, refl, ap, sym, ◌∙◌, slice_get, slice_index, ◌==◌, cond_both, Words, address_of, word_at, Op2, Instr, decode_of, Slot, NoSlot, is_transfer, Blocks, blocks_of, always, never, Node, Block, X, home_of, Open, jumps_in, Graph, graph_of, has_cases, node_of, Point, same_kind, MatchesBy, ◌<◌, Exit, Head, OfWord, Shape, head_items, marked, MatchesIn, graph_in, number_in, slot_piece, case_piece, way_piece, image_number, IsOffPages}
use Rattle.v8_decode.specs.declared.Instr.TheVariants as i
use Rattle.cfg_blocks.specs.declared.EdgeKind.TheVariants as kinds
use Rattle.cfg_normal.specs.declared.Slot.TheVariants as carried
use Rattle.image_code.proofs.Points.{visited_at}
use Rattle.image_code.proofs.PointShapes.{IsHead, IsVisited, head, outside, beyond, IsForeign, IsOff}
use Rattle.image_code.proofs.Shapes.{switch_some}
use Rattle.image_code.proofs.ImageNumbers.{jump_numbered}
use Rattle.image_code.proofs.Visited.{PlacedEdit, site, AtSlot, InSlot, case_shape, case_piece_is, edge_is, image_shape, l, marked_at, off, on, shapes, slotted, plain_shape, plain_piece_is, target, visited_word, way_in, slot_placed, at_word}
use Rattle.image_code.specs.Made.{first_word, image_by, jump_image_by, jumps_at, slot_copy, visit_of, way_by}

-- no Case edges leave the node by which a jump goes, or it goes along one of them
pub by_cases : (A : Type 0) (out cased : Bool) → ((out ≡ true → cased ≡ false) → A)
    → (out ≡ true → cased ≡ true → A) → A
by_cases A true true plain along = along refl refl
by_cases A true false plain along = plain (λ _. refl)
by_cases A false cased plain along = plain (λ e. absurd (cc))

-- ---- what pieces begin with: the Mark of a word, in which some word stands

module _ (text : Words) (b : Blocks) (opens : List Open) (jumps cases : ℕ) (visit : OfWord) (Holds : Shape → Type 0)
    (headed : (head : Head) (edges : List ℕ) (exit : Exit) → 0 < length (head_items visit.address head)
    → Holds (marked visit head edges exit)) where
  abbrev graph : Graph
  graph = graph_of b opens

  jump_head : (node : Node) (rd rs1 : ℕ) (op2 : Op2) → Holds (jump_image_by text graph jumps cases visit node rd rs1 op2)
  jump_head (Block k) rd rs1 op2 =
      cond_both (jumps_in opens k.0) _ _ Holds (λ e.
      let found = jump_numbered text b opens k.0 e in
      rw (rw found.4 at found.2, found.3) (headed _ _ _ (switch_some visit.address rd _)))
      (λ _. headed _ _ _ (omega arith))
  jump_head _ rd rs1 op2 = headed _ _ _ (omega arith)

  image_head : (node : Node) (word : ℕ) (instr : Instr) → Holds (image_by text graph jumps cases visit node word instr)
  image_head node word (i.Branch cond annul disp) =
      cond_both (cond == always) _ _ Holds (λ _. headed _ _ _ (omega arith))
      (λ _. cond_both (cond == never) _ _ Holds (λ _. headed _ _ _ (omega arith)) (λ _. headed _ _ _ (omega arith)))
  image_head node word (i.Jmpl rd rs1 op2) = jump_head node rd rs1 op2
  image_head node word instr = headed _ _ _ (omega arith)

home_outside : (node : Node) → home_of node ≡ X → node ≡ X
home_outside node e = grind arith

-- ---- the copy of a slot's word

module _ (at_slot : AtSlot) where
  open at_slot use {in_slot, edit, node, x, not, way, slot, at, edit.{g, p, f}}

  -- its piece, from which control goes on to a word at the edge's node
  pub record HasCopy (piece to : ℕ) : Type 0 where
    pub here : slot_piece g (l edit) node x ≡ piece
    pub shape : slice_get (shapes edit) piece
        ≡ Some (slot_copy g.text (graph_in g) f.table.base (visit_of g.text (graph_in g) node slot)
        (slice_index g.text.words slot) way.number way.edge to)

  copy_at : (piece to : ℕ) → slot_piece g (l edit) node x ≡ piece → slice_get (shapes edit) piece
      ≡ Some (way_by g.text (graph_in g) f.table.base way.number way.edge to (carried.Word (record { 0 = slot })))
      → HasCopy piece to
  copy_at piece to here is =
      record { here = here; shape = is ∙ ap (λ (s : Shape). Some s) (rw (edge_is in_slot).leaves) }

  pub plain_copy : (same_kind (way_in edit x) kinds.Out ≡ true → has_cases g.switches node ≡ false)
      → HasCopy (way_piece g.text (graph_in g) way.number) (first_word (graph_in g) way.edge.to)
  plain_copy caseless =
      copy_at _ _ (plain_piece_is in_slot caseless) (plain_shape in_slot caseless _ (on in_slot slot at))

  pub case_copy : (out : same_kind (way_in edit x) kinds.Out ≡ true) (cased : has_cases g.switches node ≡ true)
      → let to = target in_slot out cased in HasCopy (case_piece g.text (graph_in g) to.o.block to.word) to.word
  case_copy out cased =
      copy_at _ _ (case_piece_is in_slot out cased) (case_shape in_slot out cased _ (on in_slot slot at))

  pub copy_visited : (piece to : ℕ) → HasCopy piece to → visited_at (site edit) node x ≡ slice_index p.at piece
  copy_visited piece to copy =
      rw (at, ← copy.here) (slot_placed (l edit).image g (l edit) p f node x (Some slot) x.slot not)

module _ (edit : PlacedEdit) where
  open edit use {g, p}

  abbrev b : Blocks
  b = blocks_of g.text g.given

  -- ---- outside the text

  pub foreign_is : (node : Node) (x : Point) → x.slot ≡ NoSlot → word_at g.text x.pc ≡ None
      → home_of node ≡ node_of b (word_at g.text x.pc) → IsOffPages g x → IsForeign g node x
  foreign_is node x slot none held open_there =
      let beyond = home_outside node (held ∙ ap (node_of b) none) in assumption

  -- ---- at a word

  abbrev HeadAt : Node → Point → ℕ → Shape → Type 0
  HeadAt node x piece s = slice_get (shapes edit) piece ≡ Some s → IsHead (site edit) node x

  head_of : (node : Node) (x : Point) (word : ℕ) → word_at g.text x.pc ≡ Some word → (piece : ℕ)
      → visited_at (site edit) node x ≡ slice_index p.at piece → (head : Head) (edges : List ℕ) (exit : Exit)
      → 0 < length (head_items (record { 0 = address_of g.text word }) head)
      → HeadAt node x piece (marked (visit_of g.text (graph_in g) node word) head edges exit)
  head_of node x word at piece here its edges exit some is =
      let mark = marked_at edit node x word at piece here (λ _ _. its) edges exit is in
      record { head = its; edges = edges; exit = exit; mark = mark; some = some }

-- ---- in a slot

module _ (in_slot : InSlot) where
  open in_slot use {edit, node, x, not, way, edit.{g, f, below, noted}}

  pub off_is : word_at g.text x.pc ≡ None → IsOff (site edit) node x
  off_is none = record {
    slot = not;
    none = none;
    range = _;
    noted = noted way.number way.edge way.is (off in_slot none);
    lo = refl;
    address = sym (rw (off in_slot none) at way.carries);
    number = ap (number_in g) (edge_is in_slot).leaves;
    beside = inl below;
  }

  copied : (slot : ℕ) (at : word_at g.text x.pc ≡ Some slot) (piece to : ℕ)
      → HasCopy (record { in_slot = in_slot; slot = slot; at = at }) piece to → IsVisited (site edit) node x
  copied slot at piece to copy =
      let here = head_of edit node x slot at piece (copy_visited _ piece to copy) in
      head (cond_both (is_transfer (decode_of (slice_index g.text.words slot))) _ _ (HeadAt edit node x piece)
      (λ _. here _ _ _ (omega arith)) (λ _. here _ _ _ (omega arith)) copy.shape)

  visits_slot : (o : Option ℕ) → word_at g.text x.pc ≡ o → IsVisited (site edit) node x
  visits_slot None e = beyond (off_is e)
  visits_slot (Some slot) e =
      let at_slot : AtSlot = record { in_slot = in_slot; slot = slot; at = e } in
      by_cases (IsVisited (site edit) node x) (same_kind (way_in edit x) kinds.Out) (has_cases g.switches node)
      (λ caseless. copied slot e _ _ (plain_copy at_slot caseless))
      (λ out cased. copied slot e _ _ (case_copy at_slot out cased))

-- ---- all points

module _ (edit : PlacedEdit) where
  open edit use {g, f}

  pub visits : (node : Node) (x : Point) → MatchesIn g node x → IsOffPages g x → IsVisited (site edit) node x
  visits node x m open_there = by x.slot refl m.0 (word_at g.text x.pc) refl
    where
      by : (s : Slot) → x.slot ≡ s → MatchesBy g.text (graph_in g) node x s → (o : Option ℕ) → word_at g.text x.pc ≡ o
          → IsVisited (site edit) node x
      by NoSlot none m0 None e = outside (foreign_is edit node x none e m0.0 open_there)
      by NoSlot none m0 (Some word) e =
          let piece = image_number g.text (graph_in g) node word in
          head (image_head g.text (blocks_of g.text g.given) g.switches (jumps_at g.text f.table.base) f.cases.base
          (visit_of g.text (graph_in g) node word) (HeadAt edit node x piece)
          (head_of edit node x word e piece (visited_word edit node x word e none)) node word
          (decode_of (slice_index g.text.words word)) (image_shape (at_word edit node x word e none m0.0 m.1 m0.1) _ refl))
      by s some m0 o e = visits_slot (slotted edit node x s some (λ q. absurd (cc)) m0) o e

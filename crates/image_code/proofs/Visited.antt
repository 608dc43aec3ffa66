-- Where the points of a text are visited, and what stands there.
use Rattle.image_code.proofs.Common.{Taken, Graph, slice_get_within, get_or_from_slice_get, ◌≡◌, ◌≢◌, ℕ, ◌+◌, ◌-◌, ◌%◌, ◌^◌, ◌<◌, inl, inr, true, false, Option, Some, None, List, [], length, refl, ap, sym, ◌∙◌, subst, arith, ◌==◌, slice_get, slice_index, option_map, eqb-true, lt-ltb, le-ltb, address_of, word_at, Instr, decode_of, Slot, NoSlot, State, EdgeKind, Blocks, blocks_of, word_at-some, Node, Block, home_of, IsNodeIn, Open, has_cases, lands, node_of, Point, WayOut, edge_along, instr_at, left_by, slot_left, way_of, same_kind, IsOnItsWay, MatchesBy, block, same_kinds, Placement, Addr, IsCut, holding_of, node_is, Carried, IsSlotIn, IsTarget, word_at-address, is_transfer, goes_act, ◌⊎◌, Exit, Head, Shape, goes_to, leaves_to, marked, by_kind, way_to, IsCarried, IsTable, EditorData, IsPlaced, Pieces, place_by, slot_piece, along_case, along_number, case_piece, enter_number, image_number, jump_number, way_piece}
use Rattle.cfg_blocks.specs.declared.EdgeKind.TheVariants as kinds
use Rattle.cfg_normal.specs.declared.Slot.TheVariants as carried
use Rattle.cfg_normal.proofs.LandingFacts.{targets_at}
use Rattle.image_code.proofs.OpenBlocks.{are_open}
use Rattle.image_code.proofs.Points.{Site, entered_at, visited_at}
use Rattle.image_code.proofs.PointShapes.{IsJumpTarget, IsMarked, LeadsTo, Reaches}
use Rattle.image_code.proofs.CaseTables.{IsKnown, IsAlong, along, by_case, cut_in, facts, shape_along, shape_case, slot_in}
use Rattle.image_code.proofs.Positions.{placed}
use Rattle.image_code.proofs.Branches.{IsTransfersWay, way_is_own}
use Rattle.image_code.proofs.ImageNumbers.{HasImage, has_image, image_at, jump_numbered}
use Rattle.image_code.specs.Simulates.{EditSetup, gone_at, graph_in, word_of, does_at}
use Rattle.image_code.specs.Made.{AreCasesFor, IsOffNoted, IsTableFor, edit_pieces, first_word, image_by, jumps_at, shape_list, visit_of, way_by, way_out}

module _ (g : EditSetup) where
  pub word_is : (x : Point) (word : ℕ) → word_at g.text x.pc ≡ Some word
      → word_of g.text x.pc ≡ Some (slice_index g.text.words word)
  word_is x word e = ap (option_map (λ n. slice_index g.text.words n)) e

  -- a word that is no transfer goes on to the next one, and into no slot
  pub goes_straight : (x : Point) (t : State) (word : ℕ) → word_of g.text x.pc ≡ Some word
      → is_transfer (decode_of word) ≡ false → (does_at g x t).ending ≡ None
      → ((does_at g x t).pc ≡ x.npc) × ((does_at g x t).slot ≡ NoSlot)
  goes_straight x t word is straight live = grind (arith, goes_act)

  -- ---- the edges of a step: into a slot none

  pub nothing_gone : (node : Node) (x : Point) (v : State) → x.slot ≡ NoSlot → v.slot ≢ NoSlot → v.ending ≡ None
      → gone_at g node x v ≡ []
  nothing_gone node x v none slot live = rw (live, none) (grind arith)

  -- a step from one word to another, outside slots, completes the edge that it leaves along
  pub left_gone : (node : Node) (x : Point) (v : State) → x.slot ≡ NoSlot
      → v.slot ≡ NoSlot → v.ending ≡ None → (word : ℕ) → word_at g.text x.pc ≡ Some word → (instr : Instr)
      → decode_of (slice_index g.text.words word) ≡ instr → gone_at g node x v ≡ left_by (graph_in g) node word instr
  left_gone node x v none after live word at instr says = rw (live, none, after, at, says)

  -- one from a slot completes the edge of the transfer before, and after a jump a landing
  pub slot_gone : (node : Node) (x : Point) (v : State) → x.slot ≢ NoSlot → v.slot ≡ NoSlot → v.ending ≡ None
      → gone_at g node x v ≡ slot_left g.text (graph_in g) node (way_of (instr_at g.text (x.pc - 4)) x.slot) v.pc
  slot_gone node x v slot after live = rw (live, after) (grind arith)

-- in a slot
pub slot_placed : (image : Node → ℕ → ℕ) (g : EditSetup) (l : Pieces) (p : Placement) (f : EditorData) (node : Node) (x : Point)
    (o : Option ℕ) (s : Slot) → s ≢ NoSlot
    → place_by image g l p f node x o s ≡ place_by image g l p f node x o Taken
slot_placed image g l p f node x o NoSlot n = absurd (n refl)
slot_placed image g l p f node x None _ n = refl
slot_placed image g l p f node x (Some word) _ n = refl

-- An edit: a set-up of which the code knows, its pieces placed, and what is known of the tables.
pub record PlacedEdit : Type 0 where
  pub g : EditSetup
  pub codes : ℕ → List ℕ
  pub base : ℕ
  pub p : Placement
  pub place : ℕ → ℕ → ℕ
  pub f : EditorData
  pub is : IsKnown g
  pub placed : IsPlaced g (edit_pieces g f codes) base p place f
  pub tables : IsTableFor g.text (graph_in g) g.snips p f.table f.halves
  pub cases : AreCasesFor g.text (graph_in g) p f.cases
  pub below : f.table.base < base
  pub noted : IsOffNoted g f.table.base

-- a visit of a word at a node whose block holds it, outside a slot
pub record AtWord : Type 0 where
  pub edit : PlacedEdit
  pub node : Node
  pub x : Point
  pub word : ℕ
  pub at : word_at edit.g.text x.pc ≡ Some word
  pub none : x.slot ≡ NoSlot
  pub held : home_of node ≡ node_of (blocks_of edit.g.text edit.g.given) (word_at edit.g.text x.pc)
  pub there : IsNodeIn (blocks_of edit.g.text edit.g.given) edit.g.switches node
  pub npc : x.npc ≡ (x.pc + 4) % 2 ^ 32
  pub inside : word < length edit.g.text.words
  pub cut : IsCut edit.g.text (blocks_of edit.g.text edit.g.given)
  pub low : word < (blocks_of edit.g.text edit.g.given).words
  pub home : home_of node ≡ block (holding_of (blocks_of edit.g.text edit.g.given) word)
  pub has : HasImage edit.g.text (graph_in edit.g) (facts edit.g edit.is) node word

module _ (edit : PlacedEdit) where
  open edit use {g, codes, is, base, p, place, f, tables.{whole}}

  abbrev b : Blocks
  b = blocks_of g.text g.given

  abbrev pub l : Pieces
  l = edit_pieces g f codes

  abbrev pub shapes : List Shape
  shapes = shape_list g.text (graph_in g) f.table.base f.cases.base

  abbrev pub site : Site
  site = record {
    g = g;
    l = l;
    shapes = shapes;
    made = refl;
    base = base;
    p = p;
    place = place;
    f = f;
    placed = edit.placed;
  }

  -- ---- where a machine stands that visits a point, or enters it

  pub visited_word : (node : Node) (x : Point) (word : ℕ) → word_at g.text x.pc ≡ Some word → x.slot ≡ NoSlot
      → visited_at site node x ≡ slice_index p.at (image_number g.text (graph_in g) node word)
  visited_word node x word e n = rw (e, n)

  pub entered_word : (node : Node) (x : Point) (word : ℕ) → word_at g.text x.pc ≡ Some word → x.slot ≡ NoSlot
      → entered_at site node x ≡ slice_index p.at (enter_number g.text (graph_in g) node word)
  entered_word node x word e n = rw (e, n)

  pub entered_none : (node : Node) (x : Point) → word_at g.text x.pc ≡ None → x.slot ≡ NoSlot
      → entered_at site node x ≡ x.pc
  entered_none node x e n = rw (e, n)

  pub entered_slot : (node : Node) (x : Point) (word : ℕ) → word_at g.text x.pc ≡ Some word → x.slot ≢ NoSlot
      → entered_at site node x ≡ slice_index p.at (slot_piece g l node x)
  entered_slot node x word e n = rw e (slot_placed l.enter g l p f node x (Some word) x.slot n)

  -- a piece that is visited begins with the Mark of its word
  abbrev pub marked_at : (node : Node) (x : Point) (word : ℕ) → word_at g.text x.pc ≡ Some word → (piece : ℕ)
      → visited_at site node x ≡ slice_index p.at piece → (head : Addr → ℕ → Head) (edges : List ℕ) (exit : Exit)
      → slice_get shapes piece ≡ Some (marked (visit_of g.text (graph_in g) node word)
      (head (record { 0 = address_of g.text word }) (slice_index g.text.words word)) edges exit)
      → IsMarked site node x head edges exit
  marked_at node x word at piece here head edges exit shape =
      let original = sym (word_at-some g.text x.pc word at).is in
      let is = word_is g x word at in
      record { piece = _; here = here; address = _; original = original; word = _; is_word = is; shape = shape }

  -- where an exit leads that goes on at an address, at a node
  abbrev pub GoesThere : Node → ℕ → Exit → Type 0
  GoesThere node pc exit =
      ((word_at g.text pc ≡ None) × IsJumpTarget pc × (exit ≡ leaves_to pc))
      ⊎ ((word : ℕ) × (word_at g.text pc ≡ Some word)
      × (exit ≡ goes_to (enter_number g.text (graph_in g) node word)))

  pub goes_on_there : (node : Node) (x : Point) (k : ℕ) (exit : Exit) → x.slot ≡ NoSlot → GoesThere node x.pc exit
      → Reaches site k exit (word_at g.text x.pc) (entered_at site node x)
  goes_on_there node x k exit slot (inl (none, far, is)) = rw (is, entered_none node x none slot) (none, far, refl)
  goes_on_there node x k exit slot (inr (word, some, is)) = rw is (sym (entered_word node x word some slot))

  -- outside the words' images control comes to the visit itself
  pub enters_itself : (node : Node) (x : Point)
      → ((word : ℕ) → word_at g.text x.pc ≡ Some word → x.slot ≡ NoSlot
      → enter_number g.text (graph_in g) node word ≡ image_number g.text (graph_in g) node word)
      → entered_at site node x ≡ visited_at site node x
  enters_itself node x same = by (word_at g.text x.pc) refl x.slot refl
    where
      by : (o : Option ℕ) → word_at g.text x.pc ≡ o → (s : Slot) → x.slot ≡ s
          → place_by l.enter g l p f node x o s ≡ place_by l.image g l p f node x o s
      by (Some word) e NoSlot n = ap (slice_index p.at) (same word e n)
      by _ e _ n = refl

  -- ---- the image of a word

  abbrev pub at_word : (node : Node) (x : Point) (word : ℕ) → word_at g.text x.pc ≡ Some word → x.slot ≡ NoSlot
      → home_of node ≡ node_of b (word_at g.text x.pc) → IsNodeIn b g.switches node → x.npc ≡ (x.pc + 4) % 2 ^ 32
      → AtWord
  at_word node x word at none held there npc =
      let inside = (word_at-some g.text x.pc word at).within in
      let cut = cut_in g is in
      let low : word < b.words = omega (arith, inside, cut.words) in
      let home = held ∙ ap (node_of b) at ∙ node_is b word low in
      let has = has_image g.text (graph_in g) (facts g is) node word home there in
      search

  -- ---- in a slot

  -- the way of the transfer before
  abbrev pub way_in : Point → EdgeKind
  way_in x = way_of (instr_at g.text (x.pc - 4)) x.slot

  abbrev pub way_now : Node → Point → WayOut
  way_now node x = way_to g.text (graph_in g) node (way_in x) x.npc

  pub on_its_way : (node : Node) (x : Point) (s : Slot) → x.slot ≡ s → s ≢ NoSlot
      → MatchesBy g.text (graph_in g) node x s → IsOnItsWay g.text (graph_in g) node x (way_in x)
  on_its_way node x NoSlot e n m = absurd (n refl)
  on_its_way node x _ e n m =
      subst (λ (s : Slot). IsOnItsWay g.text (graph_in g) node x (way_of (instr_at g.text (x.pc - 4)) s)) (sym e) m

-- A point in the slot of a transfer, on the way of its edge.
pub record InSlot : Type 0 where
  pub edit : PlacedEdit
  pub node : Node
  pub x : Point
  pub not : x.slot ≢ NoSlot
  pub way : IsOnItsWay edit.g.text (graph_in edit.g) node x (way_in edit x)

abbrev pub slotted : (edit : PlacedEdit) (node : Node) (x : Point) (s : Slot) → x.slot ≡ s → s ≢ NoSlot
    → MatchesBy edit.g.text (graph_in edit.g) node x s → InSlot
slotted edit node x s e not m =
    record { edit = edit; node = node; x = x; not = λ n. not (sym e ∙ n); way = on_its_way edit node x s e not m }

-- at a word of the text
pub record AtSlot : Type 0 where
  pub in_slot : InSlot
  pub open in_slot use {edit, node, x, not, way}
  pub slot : ℕ
  pub at : word_at edit.g.text x.pc ≡ Some slot

abbrev slot_for : Option ℕ → Carried
slot_for None = carried.Off
slot_for (Some word) = carried.Word (record { 0 = word })

module _ (in_slot : InSlot) where
  open in_slot use {edit, node, x, not, way, edit.{g, codes, is, p, f, tables.{whole}}}

  abbrev blocks : Blocks
  blocks = blocks_of g.text g.given

  pub edge_is : IsAlong g is node (way_now edit node x) way.number way.edge
  edge_is = along g is node (way_now edit node x) way.number way.edge way.only way.is

  -- the edge carries what stands at the point
  carries : way.edge.slot ≡ slot_for (word_at g.text x.pc)
  carries = by way.edge.slot refl way.carries
    where
      by : (s : Carried) → way.edge.slot ≡ s → IsCarried g.text s x.pc → s ≡ slot_for (word_at g.text x.pc)
      by carried.Nothing e c = absurd c
      by carried.Off e c =
          let n = length g.text.words in rw (c, word_at-address g.text n, le-ltb n n (omega arith))
      by (carried.Word w) e c =
          let low : w.0 < length g.text.words =
          omega (arith, subst (IsSlotIn blocks) e (slot_in g is way.number way.edge way.is), (cut_in g is).words) in
          rw (c, word_at-address g.text w.0, lt-ltb _ _ low)

  -- behind the text
  pub off : word_at g.text x.pc ≡ None → way.edge.slot ≡ carried.Off
  off none = carries ∙ rw none

  -- at a word
  pub on : (slot : ℕ) → word_at g.text x.pc ≡ Some slot → way.edge.slot ≡ carried.Word (record { 0 = slot })
  on slot at = carries ∙ rw at

  -- the number of the piece at which its slot stands
  piece_along : slot_piece g (l edit) node x ≡ along_number g.text (graph_in g) way.number (Some way.edge) x.npc
  piece_along = rw (way.only, way.is)

  -- ---- an edge of which the node has one

  module _ (caseless : same_kind (way_in edit x) kinds.Out ≡ true → has_cases g.switches node ≡ false) where
    pub way_is : way_now edit node x ≡ by_kind (way_in edit x)
    way_is = by (way_in edit x) caseless
      where
        by : (kind : EdgeKind) → (same_kind kind kinds.Out ≡ true → has_cases g.switches node ≡ false)
            → way_to g.text (graph_in g) node kind x.npc ≡ by_kind kind
        by kinds.Out h = rw (h refl)
        by _ h = refl

    pub kind_is : way.edge.kind ≡ way_in edit x
    kind_is = edge_is.same ∙ ap (λ (w : WayOut). w.kind) way_is

    pub plain_piece_is : slot_piece g (l edit) node x ≡ way_piece g.text (graph_in g) way.number
    plain_piece_is = piece_along ∙ rw (kind_is, (way_is_own (instr_at g.text (x.pc - 4)) x.slot).caseless)

    pub plain_shape : (to : Carried) → way.edge.slot ≡ to
        → slice_get (shapes edit) (way_piece g.text (graph_in g) way.number)
        ≡ Some (way_by g.text (graph_in g) f.table.base way.number way.edge (first_word (graph_in g) way.edge.to) to)
    plain_shape to e =
        shape_along g is f.table.base f.cases.base node (way_now edit node x) way.number way.edge edge_is
        (subst IsTransfersWay (sym (ap (λ (w : WayOut). w.kind) way_is)) (way_is_own _ _)) to e

  -- ---- a Case edge

  module _ (out : same_kind (way_in edit x) kinds.Out ≡ true) (cased : has_cases g.switches node ≡ true) where
    pub case_way : way_now edit node x ≡ by_case (lands (graph_in g) (word_at g.text x.npc))
    case_way = rw (same_kinds (way_in edit x) kinds.Out out, cased)

    pub case_kind : way.edge.kind ≡ kinds.Case
    case_kind = edge_is.same ∙ ap (λ (w : WayOut). w.kind) case_way

    -- the target, and the open switch
    pub record IsTargetOf : Type 0 where
      pub k : ℕ
      pub o : Open
      pub among : slice_get g.switches k ≡ Some o
      pub itself : node ≡ block o.block
      pub numbered : jump_number (graph_in g).opens o.block ≡ Some k
      pub entry : ℕ
      pub word : ℕ
      pub at : slice_get o.targets entry ≡ Some word
      pub goes : word_at g.text x.npc ≡ Some word

    pub target : IsTargetOf
    target = by node refl (way.cases out cased) cased
      where
        by : (n : Node) → node ≡ n → IsTarget g.text g.switches n x.npc → has_cases g.switches n ≡ true → IsTargetOf
        by (Block k) same to has =
            let its = jump_numbered g.text blocks g.switches k.0 has in
            let o = its.1 in
            let at = get_or_from_slice_get g.switches its.0 o in
            let one = (are_open g.text is.graph.given is.graph.entry is.text).one in
            let all = targets_at g.switches (rw (ap (λ (z : Graph). z.opens) is.graph.is) one) k.0 its.0 o
            (slice_get_within g.switches its.0 o its.3) (λ d. rw (at d its.3) its.4) in
            let found = placed (λ (x : ℕ). x == to.0) o.targets (rw (all, at o its.3) at to.2) in
            record {
              k = its.0;
              o = o;
              among = its.3;
              itself = same ∙ ap block (sym its.4);
              numbered = its.2;
              entry = found.number;
              word = to.0;
              at = found.is ∙ ap (λ (z : ℕ). Some z) (eqb-true found.item to.0 found.passes);
              goes = to.1;
            }
        by _ same to has = absurd to

    pub case_piece_is : slot_piece g (l edit) node x ≡ case_piece g.text (graph_in g) target.o.block target.word
    case_piece_is =
        (rw (case_kind, edge_is.leaves, target.goes) at piece_along)
        ∙ ap (λ (n : Node). along_case g.text (graph_in g) n way.number (Some target.word)) target.itself

    pub case_shape : (to : Carried) → way.edge.slot ≡ to
        → slice_get (shapes edit) (case_piece g.text (graph_in g) target.o.block target.word)
        ≡ Some (way_by g.text (graph_in g) f.table.base way.number way.edge target.word to)
    case_shape to e =
        shape_case g is f.table.base f.cases.base target.k target.o target.among target.entry target.word
        target.at way.number way.edge (record {
          only = ap (λ (n : Node). edge_along (graph_in g) n (by_case (lands (graph_in g) (Some target.word))))
              (sym target.itself) ∙ (rw (case_way, target.goes) at edge_is.only);
          found = edge_is.found;
          leaves = edge_is.leaves ∙ target.itself;
          same = case_kind;
        })
        to e

  -- ---- into a slot

  -- the way of the edge on which a slot is run leads to where that is visited
  pub enters : (same_kind (way_in edit x) kinds.Out ≡ true → has_cases g.switches node ≡ false)
      → (kind : EdgeKind) → way_in edit x ≡ kind
      → LeadsTo (site edit) (record { 0 = way_out g.text (graph_in g) node kind }) [] (word_at g.text x.pc)
      (entered_at (site edit) node x)
  enters caseless kind same =
      rw (slot_placed (l edit).enter g (l edit) p f node x (word_at g.text x.pc) x.slot not) (by (word_at g.text x.pc) refl)
    where
      number : way_out g.text (graph_in g) node kind ≡ way_piece g.text (graph_in g) way.number
      number = rw (← same, rw (way_is caseless) at way.only)

      by : (o : Option ℕ) → word_at g.text x.pc ≡ o
          → LeadsTo (site edit) (record { 0 = way_out g.text (graph_in g) node kind }) [] o
          (place_by (l edit).enter g (l edit) p f node x o Taken)
      by (Some word) e = inl (refl, ap (slice_index p.at) (number ∙ sym (plain_piece_is caseless)))
      by None e =
          let table : IsTable f.table = whole in
          inr (
            leaves_to f.table.base,
            ap (slice_get (shapes edit)) number ∙ plain_shape caseless carried.Off (off e),
            (refl, (omega arith, omega arith), refl),
          )

module _ (visit : AtWord) where
  open visit use {edit, node, x, word, edit.{g, codes, is, f}}

  pub image_shape : (instr : Instr) → decode_of (slice_index g.text.words word) ≡ instr
      → slice_get (shapes edit) (image_number g.text (graph_in g) node word)
      ≡ Some (image_by g.text (graph_in g) (jumps_at g.text f.table.base) f.cases.base
      (visit_of g.text (graph_in g) node word) node word instr)
  image_shape instr e =
      image_at g.text (graph_in g) (facts g is) f.table.base f.cases.base node word visit.inside visit.has ∙ rw e

  -- its piece begins with its Mark
  abbrev pub at_image : (head : Addr → ℕ → Head) (edges : List ℕ) (exit : Exit)
      → slice_get (shapes edit) (image_number g.text (graph_in g) node word)
      ≡ Some (marked (visit_of g.text (graph_in g) node word)
      (head (record { 0 = address_of g.text word }) (slice_index g.text.words word)) edges exit)
      → IsMarked (site edit) node x head edges exit
  at_image = marked_at edit node x word visit.at _ (visited_word edit node x word visit.at visit.none)

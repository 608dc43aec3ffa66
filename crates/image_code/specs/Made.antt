-- The pieces that are made of a text, by their shapes: an image of each word for each node whose block holds it, the way
-- along each edge but for the landings, a landing at each word, a way for each entry of a switch's table, and last the
-- foreign piece, to which the table leads every address outside the text.
use Rattle.std.specs.Prelude.{◌≡◌, ℕ, ◌+◌, ◌-◌, ◌*◌, ◌%◌, ◌^◌, ◌<◌, ◌≤◌, ◌==◌, nat_lt, if◌then◌else◌, Bool, ◌&&◌, List, [], ◌∷◌, length, map, slice_get, slice_index, Option, Some, None}
use Rattle.eel_base.specs.CodeText.{Words, address_of, word_at}
use Rattle.notes.specs.Format.{range_at}
use Rattle.eel_base.specs.Code.{IsText}
use Rattle.v8_decode.specs.declared.Op2.{Op2}
use Rattle.v8_decode.specs.declared.Instr.{Instr}
use Rattle.v8_decode.specs.declared.Instr.TheVariants as i
use Rattle.v8_decode.specs.Words.{decode_of}
use Rattle.v8_step.specs.Items.{is_transfer}
use Rattle.cfg_blocks.specs.declared.EdgeKind.{EdgeKind}
use Rattle.cfg_blocks.specs.declared.EdgeKind.TheVariants as kinds
use Rattle.cfg_blocks.specs.Ends.{always, never}
use Rattle.cfg_blocks.specs.Entries.{is_fall}
use Rattle.cfg_normal.specs.declared.Edge.{Edge}
use Rattle.cfg_normal.specs.declared.Node.{Node}
use Rattle.cfg_normal.specs.declared.Node.TheVariants.{Block, Landed, X}
use Rattle.cfg_normal.specs.declared.Slot.{Slot}
use Rattle.cfg_normal.specs.declared.Slot.TheVariants as slots
use Rattle.cfg_normal.specs.Nodes.{same_kind, same_node}
use Rattle.cfg_normal.specs.Opens.{Open, jumps_in}
use Rattle.cfg_normal.specs.Code.{jump_number}
use Rattle.cfg_normal.specs.Graph.{Graph, lands}
use Rattle.cfg_walk.specs.Walk.{edge_along, edge_from, landing_at, left_by}
use Rattle.cfg_walk.specs.Matches.{way_address}
use Rattle.cfg_normal.specs.Numbers.{node_number}
use Rattle.addr_translate.specs.Halves.{found_in}
use Rattle.addr_translate.specs.Lookup.{TableAt, IsTable, table_word}
use Rattle.addr_translate.specs.Table.{size_of}
use Rattle.jump_code.specs.FreeRegister.{free_register, other_register}
use Rattle.jump_code.specs.Finding.{find_words}
use Rattle.jump_code.specs.Keeping.{save_load_address}
use Rattle.layout.specs.Emitting.{words_of}
use Rattle.layout.specs.Laid.{HasShortForms, Placement}
use Rattle.snippets.specs.declared.snippet.Op.{Op}
use Rattle.layout.specs.declared.items.Item.{Item}
use Rattle.image_code.specs.declared.shape.Exit.{Exit}
use Rattle.image_code.specs.declared.shape.Exit.TheVariants as exits
use Rattle.image_code.specs.declared.shape.Head.TheVariants as heads
use Rattle.image_code.specs.declared.shape.SourceWord.{SourceWord}
use Rattle.image_code.specs.Simulates.{EditSetup, Simulates, graph_in, number_in}
use Rattle.image_code.specs.Store.{operations_on}
use Rattle.image_code.specs.Images.{EditorData, AtVisit, IsPlaced, Pieces}
use Rattle.image_code.specs.Outside.{IsOffPages}
use Rattle.image_code.specs.Shapes.{Shape, assembled, bare, goes_to, leaves_to, marked}
use Rattle.image_code.specs.Labels as labels
use Rattle.image_code.specs.Labels.{Label, along_number, case_numbers, enter_number, first_entry, foreign_number, image_number, landing_number, node_in_order, number_of, or_zero, piece_labels, way_piece}
use Rattle.image_code.specs.Graphs.{IsGraphOf, case_table}

-- ---- words

-- NOP (B.10)
abbrev pub nop_word : ℕ
nop_word = 0x01000000

-- a word that is the slot of the transfer before it
abbrev pub is_slots : Words → ℕ → Bool
is_slots text word = nat_lt 0 word && is_transfer (decode_of (slice_index text.words (word - 1)))

-- a piece that is never run; it ends in a Jump, as the ways do
abbrev pub unused : Shape
unused = bare [] (goes_to 0)

module _ (text : Words) (graph : Graph) where
  -- A word goes on to the image of the next one, which comes next; the slot's word of a transfer, which is a block of
  -- its own, by a Jump. Behind the text's last word control leaves the text.
  abbrev pub next_to : ℕ → Exit
  next_to word =
      if nat_lt (word + 1) (length text.words)
      then (if is_slots text word then goes_to (enter_number text graph (node_in_order graph (word + 1)) (word + 1))
      else exits.Behind)
      else leaves_to (address_of text (length text.words))

  -- a word of the text at a node
  abbrev pub visit_of : Node → ℕ → SourceWord
  visit_of node word = record { address = record { 0 = address_of text word }; node = node_number graph node }

  abbrev pub first_way : List ℕ → ℕ
  first_way [] = 0
  first_way (edge ∷ edges) = way_piece text graph edge

  -- the way along the edge of a kind that leaves a node
  abbrev pub way_out : Node → EdgeKind → ℕ
  way_out node kind = first_way (edge_from graph node kind)

  -- `ba` and `bn` go one way
  abbrev pub branch_image : SourceWord → Node → ℕ → Shape
  branch_image visit node cond =
      let taken = way_out node kinds.Taken in
      let untaken = way_out node kinds.Untaken in
      if cond == always then marked visit (heads.Word nop_word) [] (goes_to taken) else
      if cond == never then marked visit (heads.Word nop_word) [] (goes_to untaken) else
      marked visit (heads.Branch cond (record { 0 = taken })) [] (goes_to untaken)

  -- at a node control goes on to a word of its block, outside the text to the original's address
  abbrev pub goes_on : Node → ℕ → ℕ → Exit
  goes_on X word address = leaves_to address
  goes_on node word address = goes_to (enter_number text graph node word)

  -- Behind the copy of a slot's word, and the snippet, a JMPL goes on at what was found; along any other edge control
  -- goes on to a word at the edge's node.
  abbrev pub goes_behind : Edge → ℕ → Exit
  goes_behind edge word =
      if same_kind edge.kind kinds.Out then exits.Found
      else goes_on edge.to word (way_address text graph edge.from edge.kind)

  -- Where control goes on after a word that is no transfer. At the comparison's landed copy and at the block itself of
  -- an open switch's jump, whose last words are transfers, that is within the block.
  abbrev pub next_at : Node → ℕ → Exit
  next_at node word = if same_node node (node_in_order graph word) then next_to word else exits.Behind

-- The piece to which the table leads from a word: where some operation is made on the landing's edge that is the
-- landing, and else where control enters the word's image.
abbrev pub lands_at : Words → Graph → List (List Op) → ℕ → ℕ
lands_at text graph snips word =
    if operations_on snips (landing_at graph (lands graph (Some word))) == 0
    then enter_number text graph (lands graph (Some word)) word else landing_number text graph word

-- ---- images of words

-- where the jumps' table stands: behind the other one
abbrev pub jumps_at : Words → ℕ → ℕ
jumps_at text table = table + size_of text

-- how far the word with the piece of a switch's first entry lies from that entry
abbrev pub distance_of : ℕ → ℕ → ℕ → ℕ
distance_of cases first table = (cases + 4 * first + 2 ^ 32 - table) % 2 ^ 32

-- Jumps look up in the table at `jumps`, and `cases` is where the words stand that have the pieces of Case edges.
module _ (text : Words) (graph : Graph) (jumps cases : ℕ) where
  abbrev pub choice_of : SourceWord → ℕ → Option ℕ → Option Open → Shape
  choice_of visit rd (Some k) (Some o) =
      let distance = distance_of cases (first_entry text graph k) o.switch.table.0 in
      marked visit (heads.SwitchJump rd distance) [] exits.Behind
  choice_of visit rd _ _ = bare [] exits.Behind

  abbrev pub jump_by : SourceWord → Node → ℕ → ℕ → Op2 → Shape
  jump_by visit node rd rs1 op2 =
      let code = find_words (free_register rd rs1 op2) (other_register rd rs1 op2) rs1 op2 jumps in
      marked visit (heads.LookUp (words_of code) rd) [] (goes_to (way_out text graph node kinds.Out))

  -- at the block itself of an open switch's jump a Case edge is chosen
  abbrev pub jump_image_by : SourceWord → Node → ℕ → ℕ → Op2 → Shape
  jump_image_by visit (Block block) rd rs1 op2 =
      if jumps_in graph.opens block.0
      then choice_of visit rd (jump_number graph.opens block.0)
      (slice_get graph.opens (or_zero (jump_number graph.opens block.0)))
      else jump_by visit (Block block) rd rs1 op2
  jump_image_by visit node rd rs1 op2 = jump_by visit node rd rs1 op2

  -- Behind the last word of a block comes the snippet of the edge to the next word.
  abbrev pub image_by : SourceWord → Node → ℕ → Instr → Shape
  image_by visit node word (i.Branch cond annul disp22) = branch_image text graph visit node cond
  image_by visit node word (i.Call disp30) =
      marked visit heads.Call [] (goes_to (way_out text graph node kinds.Call))
  image_by visit node word (i.Jmpl rd rs1 op2) = jump_image_by visit node rd rs1 op2
  image_by visit node word instr =
      marked visit (heads.Word (slice_index text.words word)) (left_by graph node word instr)
      (next_at text graph node word)

  -- the image of a word for a node whose block holds it
  abbrev pub image : Node → ℕ → Shape
  image node word = image_by (visit_of text graph node word) node word (decode_of (slice_index text.words word))

-- ---- landings

-- at a landing the snippet of its node's landing edge runs, and control goes on to the word's image there
abbrev pub landing : Words → Graph → ℕ → Shape
landing text graph word =
    bare (landing_at graph (lands graph (Some word))) (goes_to (enter_number text graph (lands graph (Some word)) word))

-- ---- ways along edges

-- the first word of a node's block
abbrev pub first_word : Graph → Node → ℕ
first_word graph (Block block) = slice_index graph.blocks.firsts block.0
first_word graph (Landed block) = slice_index graph.blocks.firsts block.0
first_word graph X = 0

module _ (text : Words) (graph : Graph) (table : ℕ) where
  -- a transfer in a slot ends the run
  abbrev pub slot_copy : SourceWord → ℕ → ℕ → Edge → ℕ → Shape
  slot_copy visit word number edge to =
      if is_transfer (decode_of word) then marked visit heads.Couple [] exits.Behind
      else marked visit (heads.Word word) (number ∷ []) (goes_behind text graph edge to)

  -- Along an edge, by its number, to a word at its node. A slot that is run is a visit at the block that the edge
  -- leaves. One behind the text is where the table begins.
  abbrev pub way_by : ℕ → Edge → ℕ → Slot → Shape
  way_by number edge to slots.Nothing =
      bare (number ∷ []) (goes_on text graph edge.to to (way_address text graph edge.from edge.kind))
  way_by number edge to (slots.Word slot) =
      slot_copy (visit_of text graph edge.from slot.0) (slice_index text.words slot.0) number edge to
  way_by number edge to slots.Off = bare [] (leaves_to table)

  -- to the next word control falls without a way, and Case edges have theirs by entries
  abbrev pub way_along : ℕ → Edge → Shape
  way_along number edge =
      if is_fall edge.kind then unused else
      if same_kind edge.kind kinds.Case then unused else way_by number edge (first_word graph edge.to) edge.slot

  abbrev pub way_shape : ℕ → Option Edge → Shape
  way_shape number None = unused
  way_shape number (Some edge) = way_along number edge

  -- the way along the Case edge of a block to a word
  abbrev pub case_by : ℕ → List ℕ → Shape
  case_by word [] = unused
  case_by word (number ∷ numbers) = on (slice_get graph.edges number)
    where
      on : Option Edge → Shape
      on None = unused
      on (Some edge) = way_by number edge word edge.slot

  abbrev pub case_shape : ℕ → ℕ → Shape
  case_shape block word =
      case_by word (edge_along graph (Block (record { 0 = block }))
      (record { kind = kinds.Case; to = Some (lands graph (Some word)) }))

-- ---- open switches

-- what keeps the address of a load
abbrev pub save_by : Instr → Shape
save_by (i.Load kind rd rs1 op2) = bare [] (exits.Saved (words_of (save_load_address rs1 op2)))
save_by _ = bare [] exits.Behind

-- ---- all of them

module _ (text : Words) (graph : Graph) (table cases : ℕ) where
  abbrev pub shape_of : Label → Shape
  shape_of (labels.Image node word) = image text graph (jumps_at text table) cases node word
  shape_of (labels.Save block load) = save_by (decode_of (slice_index text.words load))
  shape_of (labels.Way edge) = way_shape text graph table edge (slice_get graph.edges edge)
  shape_of (labels.Landing word) = landing text graph word
  shape_of (labels.Case block word) = case_shape text graph table block word
  shape_of labels.Spare = unused
  shape_of labels.Foreign = bare [] exits.Foreign

  unfoldable pub shape_list : List Shape
  shape_list = map shape_of (piece_labels text graph)

-- where the snippet on each edge has these words
abbrev pub piece_list : Words → Graph → ℕ → ℕ → (ℕ → List ℕ) → List (List Item)
piece_list text graph table cases codes = assembled codes (shape_list text graph table cases)

-- the pieces by what they are for
abbrev pub pieces_in : Words → Graph → ℕ → ℕ → (ℕ → List ℕ) → Pieces
pieces_in text graph table cases codes = record {
  list = piece_list text graph table cases codes;
  image = image_number text graph;
  enter = enter_number text graph;
  along = λ edge next. along_number text graph edge (slice_get graph.edges edge) next;
  codes = codes;
}

-- ---- what they promise

-- The table leads from each word of the text to its landing, or to its image where that does as well, and from all
-- other addresses to the foreign piece.
pub record IsTableFor (text : Words) (graph : Graph) (snips : List (List Op)) (p : Placement) (table jumps : TableAt)
    : Type 0 where
  pub whole : IsTable table
  pub behind : jumps.base ≡ jumps_at text table.base
  pub words : (a word : ℕ) → a < 2 ^ 32 → a % 4 ≡ 0 → word_at text a ≡ Some word
      → found_in jumps a ≡ slice_index p.at (lands_at text graph snips word)
  pub others : (a : ℕ) → a < 2 ^ 32 → a % 4 ≡ 0 → word_at text a ≡ None
      → found_in jumps a ≡ slice_index p.at (foreign_number text graph)

-- The words at `cases` have the places of the pieces of Case edges, by all entries.
pub record AreCasesFor (text : Words) (graph : Graph) (p : Placement) (cases : TableAt) : Type 0 where
  pub aligned : cases.base % 4 ≡ 0
  pub low : cases.base + length cases.bytes ≤ 2 ^ 31
  pub long : 4 * length (case_numbers text graph) ≤ length cases.bytes
  pub words : (entry number : ℕ) → slice_get (case_numbers text graph) entry ≡ Some number
      → table_word cases (cases.base + 4 * entry) ≡ slice_index p.at number

-- the place of a slot behind the text, where some edge has one, is where the table begins
abbrev pub IsOffNoted : EditSetup → ℕ → Type 0
IsOffNoted g table =
    (number : ℕ) (edge : Edge) → slice_get (graph_in g).edges number ≡ Some edge → edge.slot ≡ slots.Off
    → range_at g.notes table ≡ Some (record {
      lo = table;
      hi = table + 4;
      address = address_of g.text (length g.text.words);
      node = number_in g edge.from;
    })

-- the pieces of an edit
abbrev pub edit_pieces : EditSetup → EditorData → (ℕ → List ℕ) → Pieces
edit_pieces g f codes = pieces_in g.text (graph_in g) f.table.base f.cases.base codes

-- However they are placed, each image is one step of the original, at every point outside the pages.
abbrev pub PiecesMakeImages : Type 0
PiecesMakeImages =
    (g : EditSetup) (codes : ℕ → List ℕ) (base : ℕ) (p : Placement) (place : ℕ → ℕ → ℕ) (f : EditorData) → IsText g.text
    → IsGraphOf g.text (graph_in g) → g.opens ≡ map (case_table g.text) g.switches
    → IsPlaced g (edit_pieces g f codes) base p place f
    → IsTableFor g.text (graph_in g) g.snips p f.table f.halves → AreCasesFor g.text (graph_in g) p f.cases
    → f.table.base < base → IsOffNoted g f.table.base
    → Simulates g (IsOffPages g) (AtVisit g (edit_pieces g f codes) base p f)
    (HasShortForms (piece_list g.text (graph_in g) f.table.base f.cases.base codes) place)

-- What each piece is for, by labels. The order of the pieces stands here alone: a piece has the number at which its label
-- stands first.
use Rattle.std.specs.Prelude.{ℕ, ◌+◌, ◌-◌, ◌&&◌, ◌==◌, if◌then◌else◌, Bool, true, false, List, [], ◌∷◌, ◌++◌, length, map, take, slice_index, Option, Some, None}
use Rattle.std.specs.List.{enumerate_from, find, flat_map, position, position_or_len, range_with_len, sum_by}
use Rattle.eel_base.specs.CodeText.{Words, word_at}
use Rattle.cfg_blocks.specs.declared.EdgeKind.TheVariants as kinds
use Rattle.cfg_blocks.specs.Blocks.{below, holding_of, size_of}
use Rattle.cfg_normal.specs.declared.Edge.{Edge}
use Rattle.cfg_normal.specs.declared.Node.{Node}
use Rattle.cfg_normal.specs.declared.Node.TheVariants.{Block, Landed}
use Rattle.cfg_normal.specs.Nodes.{same_kind, same_node}
use Rattle.cfg_normal.specs.Opens.{Open, jumps_in}
use Rattle.cfg_normal.specs.Graph.{Graph}
use Rattle.cfg_normal.specs.Code.{edges_but_landings}
use Rattle.image_code.specs.Loads.{load_of}

pub data Label : Type 0 where
  -- the image of a word, for a node whose block holds it
  Image : (node : Node) (word : ℕ) → Label
  -- what saves the address of an open switch's load, in the block of its jump
  Save : (block load : ℕ) → Label
  -- the way along an edge
  Way : (edge : ℕ) → Label
  -- the landing at a word
  Landing : (word : ℕ) → Label
  -- the way along the Case edge of a block to a word
  Case : (block word : ℕ) → Label
  -- one that is never run
  Spare : Label
  -- the way out of the text
  Foreign : Label

-- `Spare` is for nothing, and so the same as none.
abbrev pub same_label : Label → Label → Bool
same_label (Image one word) (Image other same) = same_node one other && (word == same)
same_label (Save one load) (Save other same) = (one == other) && (load == same)
same_label (Way one) (Way other) = one == other
same_label (Landing one) (Landing other) = one == other
same_label (Case one word) (Case other same) = (one == other) && (word == same)
same_label Foreign Foreign = true
same_label _ _ = false

-- ---- the order

-- the node of a word's image in the order of the text: control falls only into the landed copy of a jump's block
abbrev pub node_in_order : Graph → ℕ → Node
node_in_order graph word =
    let block = holding_of graph.blocks word in
    if jumps_in graph.opens block then Landed (record { 0 = block }) else Block (record { 0 = block })

abbrev pub or_zero : Option ℕ → ℕ
or_zero None = 0
or_zero (Some n) = n

-- where a word first stands among the targets
abbrev pub place_in : List ℕ → ℕ → ℕ
place_in targets word = or_zero (position (λ t. t == word) targets)

-- the entries of a table: those that lead to one word share the piece of the first of them
abbrev pub entry_label : Open → ℕ → ℕ → Label
entry_label o entry word = if place_in o.targets word == entry then Case o.block word else Spare

abbrev pub entry_labels : Open → List Label
entry_labels o = map (λ (p : ℕ × ℕ). entry_label o p.0 p.1) (enumerate_from 0 o.targets)

module _ (text : Words) (graph : Graph) where
  -- the landed copy of the comparison's block, and the block itself of the jump, where the load's address is saved
  -- before the load
  abbrev pub switch_labels : Open → List Label
  switch_labels o =
      let compare = o.switch.compare.0 in
      let first = slice_index graph.blocks.firsts o.block in
      let load = load_of text o in
      map (Image (Landed (record { 0 = compare })))
      (range_with_len (slice_index graph.blocks.firsts compare) (size_of graph.blocks compare))
      ++ map (Image (Block (record { 0 = o.block }))) (range_with_len first (load - first))
      ++ Save o.block load
      ∷ map (Image (Block (record { 0 = o.block }))) (range_with_len load (first + size_of graph.blocks o.block - load))

  -- the images of the words
  abbrev pub labels_in_order : List Label
  labels_in_order = map (λ word. Image (node_in_order graph word) word) (below (length text.words))

  -- those in the order of the text, the ways along edges but for the landings, the landings at words, the blocks of open
  -- switches, the entries of their tables, and the way out of the text
  unfoldable pub piece_labels : List Label
  piece_labels =
      labels_in_order
      ++ map Way (below (length (edges_but_landings graph)))
      ++ map Landing (below (length text.words))
      ++ flat_map switch_labels graph.opens
      ++ flat_map entry_labels graph.opens
      ++ Foreign ∷ []

  -- where it stands first
  unfoldable pub number_of : Label → ℕ
  number_of label = position_or_len (same_label label) piece_labels

  -- ---- by nodes and edges

  -- the switch has this load, whose address is saved
  abbrev pub is_saved : Option Open → ℕ → Bool
  is_saved None word = false
  is_saved (Some o) word = word == load_of text o

  -- the open switch whose jump ends the block
  abbrev pub switch_at : ℕ → Option Open
  switch_at block = find (λ (o : Open). o.block == block) graph.opens

  -- where control comes to a word at a node
  abbrev pub entering : Node → ℕ → Label
  entering (Block block) word =
      if is_saved (switch_at block.0) word then Save block.0 word else Image (Block block) word
  entering node word = Image node word

  abbrev pub image_number : Node → ℕ → ℕ
  image_number node word = number_of (Image node word)

  abbrev pub enter_number : Node → ℕ → ℕ
  enter_number node word = number_of (entering node word)

  abbrev pub way_piece : ℕ → ℕ
  way_piece edge = number_of (Way edge)

  abbrev pub landing_number : ℕ → ℕ
  landing_number word = number_of (Landing word)

  abbrev pub case_piece : ℕ → ℕ → ℕ
  case_piece block word = number_of (Case block word)

  abbrev pub foreign_number : ℕ
  foreign_number = number_of Foreign

  -- the way along an edge, where control goes on at an address
  abbrev pub along_case : Node → ℕ → Option ℕ → ℕ
  along_case (Block block) edge (Some word) = case_piece block.0 word
  along_case node edge _ = way_piece edge

  abbrev pub along_number : ℕ → Option Edge → ℕ → ℕ
  along_number number None next = way_piece number
  along_number number (Some edge) next =
      if same_kind edge.kind kinds.Case then along_case edge.from number (word_at text next) else way_piece number

  -- ---- the entries of all tables, in one row

  -- the numbers of the pieces to which they lead
  abbrev pub cases_of : Open → List ℕ
  cases_of o = map (case_piece o.block) o.targets

  abbrev pub case_numbers : List ℕ
  case_numbers = flat_map cases_of graph.opens

  -- where the entries of the switch with a number begin
  abbrev pub first_entry : ℕ → ℕ
  first_entry k = sum_by (λ (o : Open). length o.targets) (take k graph.opens)

-- The lines that show a program: its routines, blocks, edges and switches, and how many there are of the first three.
use Rattle.std.specs.Prelude.{ℕ, ◌&&◌, nat_le, if◌then◌else◌, List, [], ◌∷◌, ◌++◌, length, map, slice_index, codes, decimal}
use Rattle.std.specs.List.{enumerate_from, flat_map, range_with_len}
use Rattle.eel_base.specs.CodeText.{Words, address_of}
use Rattle.eel_base.specs.Fields.{hex_of}
use Rattle.routines.specs.declared.Routine.{Routine}
use Rattle.cfg_blocks.specs.Blocks.{Blocks, size_of}
use Rattle.cfg_blocks.specs.declared.EdgeKind.{EdgeKind}
use Rattle.cfg_blocks.specs.declared.EdgeKind.TheVariants as kinds
use Rattle.cfg_blocks.specs.declared.switches.Switch.{Switch}
use Rattle.cfg_normal.specs.declared.Edge.{Edge}
use Rattle.cfg_normal.specs.declared.Node.{Node}
use Rattle.cfg_normal.specs.declared.Node.TheVariants as nodes
use Rattle.cfg_normal.specs.declared.Slot.{Slot}
use Rattle.cfg_normal.specs.declared.Slot.TheVariants as slots
use Rattle.cfg_view.specs.View.{Seen}

-- the words of a line, with spaces between them, and its end
abbrev pub line : List (List ℕ) → List ℕ
line [] = 10 ∷ []
line (word ∷ []) = word ++ 10 ∷ []
line (word ∷ next ∷ words) = word ++ 32 ∷ line (next ∷ words)

-- the address of a word of the text
abbrev pub address_text : Words → ℕ → List ℕ
address_text text word = hex_of (address_of text word)

-- a byte of a name: `?` where it isn't a printed character other than the space
abbrev pub printed : ℕ → ℕ
printed byte = if nat_le 0x21 byte && nat_le byte 0x7e then byte else 63

-- a name, or `-` where there is none
abbrev pub name_text : List ℕ → List ℕ
name_text [] = codes "-"
name_text (byte ∷ bytes) = map printed (byte ∷ bytes)

abbrev pub routine_line : Words → Routine → List ℕ
routine_line text routine =
    line (codes "routine" ∷ address_text text routine.start.0 ∷ name_text routine.name ∷ [])

-- the address of a block's first word
abbrev pub block_text : Words → Blocks → ℕ → List ℕ
block_text text blocks block = address_text text (slice_index blocks.firsts block)

abbrev pub block_line : Words → Blocks → ℕ → List ℕ
block_line text blocks block =
    line (codes "block" ∷ decimal block ∷ block_text text blocks block ∷ decimal (size_of blocks block) ∷ [])

abbrev pub kind_text : EdgeKind → List ℕ
kind_text kinds.Fall = codes "fall"
kind_text kinds.Taken = codes "taken"
kind_text kinds.Untaken = codes "untaken"
kind_text kinds.Call = codes "call"
kind_text kinds.Out = codes "out"
kind_text kinds.Land = codes "land"
kind_text kinds.Case = codes "case"

-- a block by its address, and its landed copy with a plus behind that
abbrev pub node_text : Words → Blocks → Node → List ℕ
node_text text blocks (nodes.Block block) = block_text text blocks block.0
node_text text blocks (nodes.Landed block) = block_text text blocks block.0 ++ codes "+"
node_text text blocks nodes.X = codes "x"

abbrev pub slot_text : Words → Slot → List ℕ
slot_text text slots.Nothing = codes "-"
slot_text text (slots.Word word) = address_text text word.0
slot_text text slots.Off = codes "off"

-- an edge with its number
abbrev pub edge_line : Words → Blocks → ℕ × Edge → List ℕ
edge_line text blocks (number, edge) =
    line (codes "edge" ∷ decimal number ∷ kind_text edge.kind ∷ node_text text blocks edge.from
    ∷ node_text text blocks edge.to ∷ slot_text text edge.slot ∷ [])

-- the address of the jump, that of its table, and how many entries that has
abbrev pub switch_line : Words → Switch → List ℕ
switch_line text switch =
    line (codes "switch" ∷ address_text text switch.jump.0 ∷ hex_of switch.table.0 ∷ decimal switch.count ∷ [])

abbrev pub routine_lines : Seen → List ℕ
routine_lines view = flat_map (routine_line view.image.text) view.routines

abbrev pub block_lines : Seen → List ℕ
block_lines view =
    flat_map (block_line view.image.text view.graph.blocks) (range_with_len 0 (length view.graph.blocks.firsts))

abbrev pub edge_lines : Seen → List ℕ
edge_lines view = flat_map (edge_line view.image.text view.graph.blocks) (enumerate_from 0 view.graph.edges)

abbrev pub totals_line : Seen → List ℕ
totals_line view =
    line (codes "routines" ∷ decimal (length view.routines) ∷ codes "blocks"
    ∷ decimal (length view.graph.blocks.firsts) ∷ codes "edges" ∷ decimal (length view.graph.edges) ∷ [])

abbrev pub switch_lines : Seen → List Switch → List ℕ
switch_lines view switches = flat_map (switch_line view.image.text) switches

unfoldable pub show_lines : Seen → List Switch → List ℕ
show_lines view switches =
    routine_lines view ++ block_lines view ++ edge_lines view ++ switch_lines view switches ++ totals_line view

-- What ties a written file to its original: the parts of a faithful edit.
use Rattle.std.specs.Prelude.{◌≡◌, ℕ, ◌+◌, ◌-◌, ◌*◌, ◌^◌, ◌<◌, ◌≤◌, Bool, true, false, ◌&&◌, nat_le, List, [], ◌∷◌, ◌++◌, length, take, drop, map, slice_index, Option, Some, None, Ok, All}
use Rattle.std.specs.List.{find, list_any}
use Rattle.std.specs.Option.{option_map}
use Rattle.byteorder.specs.Endian.{big_number}
use Rattle.eel_base.specs.CodeText.{address_of}
use Rattle.elf32_sparc.specs.FileFault.{load_fault}
use Rattle.elf32_sparc.specs.Header.{has_flag}
use Rattle.elf32_sparc.specs.Mapping.{Mapping, mappings}
use Rattle.elf32_sparc.specs.Image.{image_of}
use Rattle.notes.specs.Format.{Notes, NoteEdge, NoteSegment, NoteRange, notes_of}
use Rattle.v8_decode.specs.Words.{decode_of}
use Rattle.v8_step.specs.Items.{is_transfer}
use Rattle.cfg_blocks.specs.Blocks.{holding_of}
use Rattle.cfg_normal.specs.declared.Edge.{Edge}
use Rattle.cfg_normal.specs.Graph.{Graph}
use Rattle.cfg_view.specs.View.{view_of}
use Rattle.cfg_normal.specs.Numbers.{is_node, node_number, kind_number}
use Rattle.snippets.specs.declared.snippet.Op.{Op}
use Rattle.snippets.specs.Ops.{cell_of}
use Rattle.tool_kit.specs.declared.edge_ref.ToolKind.{ToolKind}
use Rattle.tool_kit.specs.declared.edge_ref.ToolKind.TheVariants as tools
use Rattle.tool_kit.specs.Plans.{AreCounters, Plan}
use Rattle.elf32_write.specs.Kept.{kept}
use Rattle.edit_core.specs.RunsAlike.{HaveRunsAlike}

-- Whole: the written file can be run, its notes read, and it holds the original whole at their delta.
pub record IsWhole (original file : List ℕ) (notes : Notes) : Type 0 where
  pub loads : load_fault file ≡ None
  pub reads : notes_of file ≡ Ok notes
  pub size : notes.length ≡ length original
  pub holds : take notes.length (drop notes.delta file) ≡ original
  pub small : length file ≤ 1536 * 2 ^ 20

-- Graph: the notes have the graph of the original, the tool and its cells.

-- the tools by their numbers
abbrev pub tool_number : ToolKind → ℕ
tool_number tools.Plain = 0
tool_number tools.Profile = 1
tool_number tools.Script = 2
tool_number tools.Trace = 3

-- In a profile an edge has the cell of its operation, if it has one; for other tools no edge has a cell.
abbrev pub cell_noted : ToolKind → List Op → Option ℕ
cell_noted tools.Profile (op ∷ ops) = Some (cell_of op)
cell_noted _ _ = None

-- an edge between nodes by their numbers, with the operations on it
abbrev pub note_edge : Graph → ToolKind → Edge → List Op → NoteEdge
note_edge graph kind edge ops = record {
  kind = kind_number edge.kind;
  from = node_number graph edge.from;
  to = node_number graph edge.to;
  cell = cell_noted kind ops;
}

abbrev pub note_edges : Graph → ToolKind → List Edge → List (List Op) → List NoteEdge
note_edges graph kind (edge ∷ edges) (ops ∷ snips) =
    note_edge graph kind edge ops ∷ note_edges graph kind edges snips
note_edges graph kind _ _ = []

pub record HasGraph (original : List ℕ) (plan : Plan) (notes : Notes) : Type 0 where
  pub start : notes.start ≡ (image_of original).text.start
  pub words : notes.words ≡ length (image_of original).text.words
  pub entry : notes.entry ≡ holding_of (view_of original plan.marks).graph.blocks (image_of original).entry
  pub blocks : notes.blocks ≡ (view_of original plan.marks).graph.blocks.firsts
  pub edges : let graph = (view_of original plan.marks).graph in
      notes.edges ≡ note_edges graph plan.kind graph.edges plan.snips
  pub tool : notes.tool ≡ tool_number plan.kind
  pub cells : notes.cells ≡ plan.cells
  -- each place is at a node of the graph
  pub places : All (λ range. is_node (view_of original plan.marks).graph range.node ≡ true) notes.ranges

-- Pages: what is mapped is what the original maps, its text no longer executable, and then the pages of the notes. The
-- last of them is the editor's, and all others lie in the room. One of them has the cells, if there are any.

abbrev pub editor_page : ℕ
editor_page = 0xfffff000

abbrev pub page_size : ℕ
page_size = 4096

abbrev pub note_of : Mapping → NoteSegment
note_of m = record { start = m.start; length = m.length }

-- a page lies in the room above the program
abbrev pub IsInRoom : List ℕ → Mapping → Type 0
IsInRoom original m =
    let image = image_of original in
    (image.base ≤ m.start) × (m.start + m.length ≤ image.base + image.room)

abbrev pub IsEditorPage : Mapping → Type 0
IsEditorPage m = (m.start ≡ editor_page) × (m.length ≡ page_size)

-- cells lie in it, with permission to be read (PF_R)
abbrev pub holds_cells : ℕ → ℕ → Mapping → Bool
holds_cells base cells m =
    nat_le m.start base && nat_le (base + 4 * cells) (m.start + m.length) && has_flag 4 m.flags

pub record HasPages (original file : List ℕ) (notes : Notes) : Type 0 where
  pub room : List Mapping
  pub editor : Mapping
  pub mapped : mappings file ≡ map kept (mappings original) ++ (room ++ editor ∷ [])
  pub noted : map note_of (room ++ editor ∷ []) ≡ notes.segments
  pub inside : All (IsInRoom original) room
  pub own : IsEditorPage editor
  pub cells : 0 < notes.cells → list_any (holds_cells notes.base notes.cells) room ≡ true

-- Places: where the notes say that a word of the text stands that is no transfer, it does.

-- the word of memory at an address, before any step
abbrev pub word_mapped : List ℕ → ℕ → Option ℕ
word_mapped file address =
    option_map (λ m. big_number 4 (drop (address - m.start) m.first))
    (find (λ m. nat_le m.start address && nat_le (address + 4) (m.start + m.length)) (mappings file))

abbrev pub IsPlace : List ℕ → List ℕ → NoteRange → Type 0
IsPlace original file range =
    let text = (image_of original).text in
    (word : ℕ) → word < length text.words → is_transfer (decode_of (slice_index text.words word)) ≡ false
    → range.address ≡ address_of text word
    → word_mapped file range.lo ≡ Some (slice_index text.words word)

-- Counters: the snippets of a profile count edges, by the cells that they have in the notes, of 32 bits where these have
-- version 1 and of 64 bits where they have version 2.
abbrev pub AreCounted : ℕ → Plan → Type 0
AreCounted version plan = plan.kind ≡ tools.Profile → AreCounters version 0 plan.snips

pub record IsFaithful (original : List ℕ) (plan : Plan) (file : List ℕ) : Type 0 where
  pub notes : Notes
  pub whole : IsWhole original file notes
  pub graph : HasGraph original plan notes
  pub pages : HasPages original file notes
  pub places : All (IsPlace original file) notes.ranges
  pub runs : HaveRunsAlike original plan file notes
  pub counters : AreCounted notes.version plan

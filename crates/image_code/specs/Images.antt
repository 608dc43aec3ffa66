-- Where a machine stands that visits a point of the original, and what it has.
use Rattle.std.specs.Prelude.{◌≡◌, ◌≢◌, ℕ, ◌+◌, ◌-◌, ◌*◌, ◌%◌, ◌^◌, ◌<◌, ◌≤◌, ◌⊎◌, true, false, List, [], ◌∷◌, length, Option, Some, None, slice_get, slice_index}
use Rattle.eel_base.specs.CodeText.{word_at}
use Rattle.notes.specs.Format.{range_at}
use Rattle.v8_alu.specs.Numbers.{wrapped}
use Rattle.v8_memory.specs.Regions.{Memory, code_of, fetch_from}
use Rattle.v8_step.specs.declared.Slot.{Slot}
use Rattle.v8_step.specs.declared.Slot.TheVariants.{NoSlot, Taken}
use Rattle.v8_step.specs.State.{State}
use Rattle.v8_step.specs.Valid.{IsValid}
use Rattle.two_runs.specs.Visits.{in_pages, pages_of}
use Rattle.cfg_blocks.specs.declared.EdgeKind.TheVariants as kinds
use Rattle.cfg_normal.specs.declared.Node.{Node}
use Rattle.cfg_normal.specs.declared.Node.TheVariants.{Block}
use Rattle.cfg_normal.specs.Nodes.{same_kind}
use Rattle.cfg_walk.specs.Walk.{Point, edge_along, instr_at, way_of, way_to}
use Rattle.code_runs.specs.StoredWords.{memory_word}
use Rattle.code_runs.specs.Ours.{AreOwn, HasWordAt, IsAmongWords, IsIn, IsOurs}
use Rattle.code_runs.specs.Page.{page_word}
use Rattle.addr_translate.specs.Halves.{IsTwoLevel, found_in}
use Rattle.addr_translate.specs.Lookup.{TableAt, table_word}
use Rattle.layout.specs.declared.items.Item.{Item}
use Rattle.layout.specs.Laid.{Placement, IsLaid, range_in}
use Rattle.layout.specs.Running.{HasCode}
use Rattle.snippet_code.specs.Runs.{DoesJust}
use Rattle.snippet_code.specs.Code.{IsCellOf}
use Rattle.snippet_code.specs.Cells.{cell_at}
use Rattle.image_code.specs.Simulates.{CaseTable, EditSetup, graph_in}
use Rattle.image_code.specs.Cost.{is_out, spills_at}
use Rattle.image_code.specs.Store.{snippet_on}

-- ---- pieces by what they are for

pub record Pieces : Type 0 where
  pub list : List (List Item)
  -- the image of a word at a node, and where control enters that; the way along an edge, by its number, to an address:
  -- a Case edge has one for each target
  pub image : Node → ℕ → ℕ
  pub enter : Node → ℕ → ℕ
  pub along : ℕ → ℕ → ℕ
  -- the words of the snippet on an edge
  pub codes : ℕ → List ℕ

-- the table that leads from addresses of the original to new code, that of two levels by which jumps look up, the words
-- that have the pieces of Case edges, and which words the editor's code may store
pub record EditorData : Type 0 where
  pub table : TableAt
  pub halves : TableAt
  pub cases : TableAt
  pub stored : List ℕ

abbrev pub along_first : Pieces → List ℕ → ℕ → ℕ
along_first l [] next = 0
along_first l (edge ∷ edges) next = l.along edge next

-- the piece of the edge on which the slot at this point is run
abbrev pub slot_piece : EditSetup → Pieces → Node → Point → ℕ
slot_piece g l node x =
    let way = way_to g.text (graph_in g) node (way_of (instr_at g.text (x.pc - 4)) x.slot) x.npc in
    along_first l (edge_along (graph_in g) node way) x.npc

-- a slot that is off the text has its place where the table begins
abbrev pub place_by : (Node → ℕ → ℕ) → EditSetup → Pieces → Placement → EditorData → Node → Point → Option ℕ → Slot → ℕ
place_by image g l p f node x (Some word) NoSlot = slice_index p.at (image node word)
place_by image g l p f node x None NoSlot = x.pc
place_by image g l p f node x (Some word) slot = slice_index p.at (slot_piece g l node x)
place_by image g l p f node x None slot = f.table.base

-- ---- what its memory has all the while

-- the table stands in memory, in words that can be loaded and not stored
abbrev pub HasTable : TableAt → Memory → Type 0
HasTable table m =
    (a : ℕ) → table.base ≤ a → a + 4 ≤ table.base + length table.bytes → a % 4 ≡ 0
    → HasWordAt a false m × (memory_word m a ≡ table_word table a)

-- an address outside the code
abbrev pub IsBeside : ℕ → List ℕ → ℕ → Type 0
IsBeside base code a = (a < base) ⊎ (base + 4 * length code ≤ a)

-- The code can be executed, and nothing else; the editor's words are its own, and the table of the jumps stands.
pub record HasImages (g : EditSetup) (base : ℕ) (p : Placement) (f : EditorData) (m : Memory) : Type 0 where
  pub code : HasCode base p.code m
  pub only : (a : ℕ) → IsBeside base p.code a → fetch_from (code_of m) a ≡ None
  pub ours : IsOurs (pages_of g.notes) f.stored m
  pub table : HasTable f.halves m
  pub cases : HasTable f.cases m

-- the node is the jump's block itself of no open switch
abbrev pub HasNoCases : EditSetup → Node → Type 0
HasNoCases g node =
    (k : ℕ) (o : CaseTable) → slice_get g.opens k ≡ Some o → node ≡ Block (record { 0 = o.block }) → ⊥

-- ---- a machine at a point, whose images stand or are entered at these pieces

pub record AtPointBy (image : Node → ℕ → ℕ) (g : EditSetup) (l : Pieces) (base : ℕ) (p : Placement) (f : EditorData)
    (node : Node) (x : Point) (t : State) : Type 0 where
  pub valid : IsValid t
  pub live : t.ending ≡ None
  pub at : t.pc ≡ place_by image g l p f node x (word_at g.text x.pc) x.slot
  pub npc : t.npc ≡ wrapped (t.pc + 4)
  pub slot : t.slot ≡ NoSlot
  pub memory : HasImages g base p f t.memory
  -- in the slot of a JMPL without Case edges, its target, a multiple of 4, waits in word 1 of the page, and what the
  -- table has for it in word 7
  pub target_in_page : x.slot ≡ Taken → same_kind (way_of (instr_at g.text (x.pc - 4)) x.slot) kinds.Out ≡ true
      → HasNoCases g node → (memory_word t.memory (page_word 1) ≡ x.npc) × (x.npc % 4 ≡ 0)
      × (word_at g.text x.pc ≢ None → memory_word t.memory (page_word 7) ≡ found_in f.halves x.npc)

-- at its visit
abbrev pub AtVisit : EditSetup → Pieces → ℕ → Placement → EditorData → Node → Point → State → Type 0
AtVisit g l base p f node x t = AtPointBy l.image g l base p f node x t

-- ---- what the notes say of placed code

pub record AreNoted (g : EditSetup) (base : ℕ) (p : Placement) : Type 0 where
  pub inside : (a : ℕ) → base ≤ a → a < base + 4 * length p.code → in_pages g.notes a ≡ true
  pub ranges : (a : ℕ) → base ≤ a → a < base + 4 * length p.code → range_at g.notes a ≡ range_in p.ranges a
  -- outside the pages nothing has a place, and all is at the node after the blocks
  pub outside : (a : ℕ) → in_pages g.notes a ≡ false → range_at g.notes a ≡ None
  pub blocks : length g.notes.blocks ≡ length (graph_in g).blocks.firsts

-- a table lies in the pages, and apart from the words that the editor's code may store
pub record IsTableIn (g : EditSetup) (own : List ℕ) (table : TableAt) : Type 0 where
  pub within : (a : ℕ) → table.base ≤ a → a + 4 ≤ table.base + length table.bytes → IsIn (pages_of g.notes) a
  pub apart : (a : ℕ) → IsAmongWords own a → (a + 4 ≤ table.base) ⊎ (table.base + length table.bytes ≤ a)

-- the words of the editor's page that its code stores, and the tables, which they leave alone
pub record IsEditorData (g : EditSetup) (f : EditorData) : Type 0 where
  pub stored : AreOwn (pages_of g.notes) f.stored
  pub page : (n : ℕ) → n < 8 → IsAmongWords f.stored (page_word n)
  pub table : IsTableIn g f.stored f.halves
  pub cases : IsTableIn g f.stored f.cases
  pub whole : IsTwoLevel f.halves

-- The cells stand below the heap, among the words that the editor's code may store, and the words of each snippet do
-- just the snippet, with what is dead behind it, whatever stores are counted. A snippet has at most 22 words an
-- operation. Along the edge of a JMPL nothing is dead.
pub record HasCells (g : EditSetup) (l : Pieces) (f : EditorData) : Type 0 where
  pub aligned : g.notes.base % 4 ≡ 0
  pub low : cell_at g.notes.base g.notes.cells ≤ 2 ^ 31
  pub stored : (cell : ℕ) → cell < g.notes.cells → IsAmongWords f.stored (cell_at g.notes.base cell)
  pub named : (edge cell : ℕ) → IsCellOf (snippet_on g.snips edge) cell → cell < g.notes.cells
  pub does : (edge : ℕ)
      → DoesJust (l.codes edge) g.notes.base (g.dead edge) (spills_at g.snips g.dead edge) (snippet_on g.snips edge)
  pub jumps : (edge : ℕ) → is_out (slice_get (graph_in g).edges edge) ≡ true → g.dead edge ≡ []
  pub short : (edge : ℕ) → length (l.codes edge) ≤ 22 * length (snippet_on g.snips edge)

-- what is given of a placement, to each image
pub record IsPlaced (g : EditSetup) (l : Pieces) (base : ℕ) (p : Placement) (place : ℕ → ℕ → ℕ) (f : EditorData) : Type 0 where
  pub laid : IsLaid l.list base p place
  pub noted : AreNoted g base p
  pub frame : IsEditorData g f
  pub cells : HasCells g l f

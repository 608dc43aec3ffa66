-- The tables by which the numbers of edges and of pieces are found.
use Rattle.std.specs.Prelude.{◌≡◌, ℕ, suc, ◌+◌, ◌-◌, ◌<◌, ◌≤◌, Bool, false, true, ◌&&◌, ◌==◌, if◌then◌else◌, List, [], length, map, slice_get, slice_index, take, slice_index_or, nat_lt, Option, Some, None}
use Rattle.std.specs.List.{Contains, find, position, range_with_len, sum_by}
use Rattle.indexmap.specs.IndexMap.{get}
use Rattle.eel_base.specs.CodeText.{Words}
use Rattle.eel_base.specs.Code.{IsText}
use Rattle.v8_decode.specs.declared.Op2.{Op2}
use Rattle.v8_decode.specs.declared.Instr.{Instr}
use Rattle.v8_decode.specs.declared.Instr.TheVariants as i
use Rattle.v8_decode.specs.declared.LoadKind.{LoadKind}
use Rattle.v8_decode.specs.declared.LoadKind.TheVariants as loads
use Rattle.cfg_blocks.specs.declared.EdgeKind.{EdgeKind}
use Rattle.cfg_blocks.specs.declared.EdgeKind.TheVariants as kinds
use Rattle.cfg_blocks.specs.declared.switches.Approach.{Approach}
use Rattle.cfg_blocks.specs.declared.switches.Value.{Value}
use Rattle.cfg_blocks.specs.Blocks.{Blocks, below, block_end, last_word, size_of}
use Rattle.cfg_blocks.specs.Values.{followed, instr_at, sum_in}
use Rattle.cfg_normal.specs.declared.Edge.{Edge}
use Rattle.cfg_normal.specs.Graph.{Graph}
use Rattle.cfg_normal.specs.Nodes.{same_kind}
use Rattle.cfg_normal.specs.Numbers.{kind_number, node_number, node_numbers}
use Rattle.cfg_normal.specs.declared.Node.{Node}
use Rattle.cfg_normal.specs.declared.Node.TheVariants.{Block, Landed, X}
use Rattle.cfg_normal.specs.Opens.{Open, is_copied, jumps_in}
use Rattle.cfg_normal.specs.Code.{IsGraph, IsNodeIn, edges_but_landings}
use Rattle.image_code.specs.declared.firsts.CaseEdge.{CaseEdge}
use Rattle.image_code.specs.contracts.firsts.CaseEdgePartialEq.TheImpl as case_eq
use Rattle.image_code.specs.declared.lookups.Lookups.{Lookups}
use Rattle.image_code.specs.Loads.{is_place, load_of}
use Rattle.image_code.specs.Graphs.{IsGraphOf}
use Rattle.image_code.specs.Labels.{enter_number, first_entry, switch_at}

-- ---- what is known of a text and its graph

-- The words of an open switch stand in the text: its comparison, the branch behind that with the slot, and the jump's
-- block.
pub record StandsInText (text : Words) (b : Blocks) (o : Open) : Type 0 where
  pub some : 0 < o.approach.compare.register
  pub register : o.approach.compare.register < 32
  pub compare : o.approach.compare.word < length text.words
  pub branch : o.approach.last + o.approach.slot < length text.words
  pub from : o.switch.compare.0 < length b.firsts
  pub block : o.block < length b.firsts
  pub first : o.approach.first ≡ slice_index b.firsts o.block
  pub jump : o.approach.jump ≡ last_word b.firsts b.words o.block
  pub ordered : o.approach.first ≤ o.approach.jump
  pub behind : o.approach.jump < length text.words

pub record IsSource (text : Words) (graph : Graph) : Type 0 where
  pub is_text : IsText text
  pub is_graph_of : IsGraphOf text graph
  pub is_graph : IsGraph graph
  pub words : graph.blocks.words ≡ length text.words
  pub stands : (o : Open) → Contains graph.opens o → StandsInText text graph.blocks o

-- ---- the load of an open switch

-- from the table at four times the index, where registers have these values
abbrev pub loads_entry : ℕ → List Value → LoadKind → ℕ → Op2 → Bool
loads_entry table values loads.LD rs1 op2 = is_place table (sum_in values rs1 op2)
loads_entry table values kind rs1 op2 = false

abbrev pub is_load : ℕ → List Value → Instr → Bool
is_load table values (i.Load kind rd rs1 op2) = loads_entry table values kind rs1 op2
is_load table values _ = false

abbrev pub or_word : ℕ → Option ℕ → ℕ
or_word first None = first
or_word first (Some word) = word

-- a word of the jump's block does, which has these values at its first word
abbrev pub loads_at : Words → List Value → Approach → ℕ → ℕ → Bool
loads_at text values a table word =
    is_load table (followed text values a.first (word - a.first)) (instr_at text word)

-- the first such word
unfoldable pub load_after : Words → List Value → Approach → ℕ → ℕ
load_after text values a table =
    or_word a.first (find (loads_at text values a table) (range_with_len a.first (a.jump - a.first)))

-- ---- tables of what comes first

-- what a table has for a number that was found: one more, and 0 where none was
abbrev pub mark_of : Option ℕ → ℕ
mark_of None = 0
mark_of (Some n) = suc n

abbrev pub first_mark : Bool → ℕ → ℕ → ℕ
first_mark is_here number before = if is_here && (before == 0) then suc number else before

-- ---- edges

-- what rows of nodes have for the numbers of a node and a kind
abbrev pub mark_at : List (List ℕ) → ℕ → ℕ → ℕ
mark_at rows node kind = slice_index (slice_index_or rows node []) kind

abbrev pub is_land : EdgeKind → Bool
is_land kind = same_kind kind kinds.Land

abbrev pub node_of_edge : Graph → Edge → ℕ
node_of_edge graph edge = if is_land edge.kind then node_number graph edge.to else node_number graph edge.from

abbrev pub is_edge_at : Graph → ℕ → ℕ → Edge → Bool
is_edge_at graph node kind edge = (node_of_edge graph edge == node) && (kind_number edge.kind == kind)

-- Rows have for each node and kind the number of the first edge there.
pub record AreFirstEdges (graph : Graph) (edges : List Edge) (rows : List (List ℕ)) : Type 0 where
  pub long : length rows ≡ node_numbers graph
  pub each : (node kind : ℕ) → mark_at rows node kind ≡ mark_of (position (is_edge_at graph node kind) edges)

abbrev pub same_case : CaseEdge → CaseEdge → Bool
same_case = (case_eq.ghosts).eq

-- an edge is the Case edge between two nodes
abbrev pub is_case : Graph → CaseEdge → Edge → Bool
is_case graph case edge =
    same_kind edge.kind kinds.Case
    && same_case (record { from = node_number graph edge.from; to = node_number graph edge.to }) case

abbrev pub number_where : Bool → ℕ → Option ℕ
number_where is_here number = if is_here then Some number else None

-- ---- pieces

-- how many an open switch has: the images of its two blocks, and what saves the address
abbrev pub pieces_of : Graph → Open → ℕ
pieces_of graph o = size_of graph.blocks o.switch.compare.0 + size_of graph.blocks o.block + 1

-- where those of the switch with this number begin
abbrev pub open_begin : Words → Graph → ℕ → ℕ
open_begin text graph k =
    length text.words + length (edges_but_landings graph) + length text.words
    + sum_by (pieces_of graph) (take k graph.opens)

-- the number of the node at which a block's images stand in the order of the text
abbrev pub place_in_order : Graph → ℕ → ℕ
place_in_order graph block =
    if jumps_in graph.opens block then length graph.blocks.firsts + 1 + block else block

-- what a table has for a node once an open switch's two blocks are noted, whose pieces begin at a number
abbrev pub image_noted : Graph → Open → ℕ → ℕ → ℕ → ℕ
image_noted graph o begin node before =
    if node == o.block then begin + size_of graph.blocks o.switch.compare.0 else
    if node == length graph.blocks.firsts + 1 + o.switch.compare.0 then begin else before

-- Images have the blocks of the first open switches, so many, and else what they had.
pub record AreSwitchesNoted (text : Words) (graph : Graph) (count : ℕ) (before images : List ℕ) : Type 0 where
  pub switches : (k : ℕ) (o : Open) → k < count → slice_get graph.opens k ≡ Some o
      → (slice_index images (length graph.blocks.firsts + 1 + o.switch.compare.0) ≡ open_begin text graph k)
      × (slice_index images o.block ≡ open_begin text graph k + size_of graph.blocks o.switch.compare.0)
  pub others : (node : ℕ)
      → ((k : ℕ) (o : Open) → k < count → slice_get graph.opens k ≡ Some o
      → (node ≡ o.block → ⊥) × (node ≡ length graph.blocks.firsts + 1 + o.switch.compare.0 → ⊥))
      → slice_index images node ≡ slice_index before node

abbrev pub block_of : Node → ℕ
block_of (Block block) = block.0
block_of (Landed block) = block.0
block_of X = 0

-- the word stands in the block of a node of the graph
abbrev pub IsInBlock : Blocks → ℕ → ℕ → Type 0
IsInBlock b block word = (slice_index b.firsts block ≤ word) × (word < block_end b.firsts b.words block)

abbrev pub IsWordOf : Graph → Node → ℕ → Type 0
IsWordOf graph X word = ⊥
IsWordOf graph node word = IsNodeIn graph.blocks graph.opens node × IsInBlock graph.blocks (block_of node) word

-- or it is X, which has no words
abbrev pub IsReached : Graph → Node → ℕ → Type 0
IsReached graph X word = Unit {0}
IsReached graph node word = IsWordOf graph node word

-- how many pieces save an address ahead of a word: one, where it lies behind the load of an open switch
abbrev pub saved_by : Words → Option Open → ℕ → ℕ
saved_by text None word = 0
saved_by text (Some o) word = if nat_lt (load_of text o) word then 1 else 0

abbrev pub saved_before : Words → Graph → ℕ → ℕ → ℕ
saved_before text graph block word = saved_by text (switch_at text graph block) word

-- the number of a word's image by its node's, as if each piece of the block were for a word
abbrev pub image_after : Graph → List ℕ → Node → ℕ → ℕ → ℕ
image_after graph images node block word =
    slice_index images (node_number graph node) + (word - slice_index graph.blocks.firsts block)

-- Images have for each node the number of the piece where control enters its block.
pub record AreFirstImages (text : Words) (graph : Graph) (images : List ℕ) : Type 0 where
  pub long : length images ≡ node_numbers graph
  pub blocks : (k : ℕ) → k < length graph.blocks.firsts → slice_index images k
      ≡ enter_number text graph (Block (record { 0 = k })) (slice_index graph.blocks.firsts k)
  pub copies : (k : ℕ) → k < length graph.blocks.firsts → is_copied graph.opens k ≡ true
      → slice_index images (length graph.blocks.firsts + 1 + k)
      ≡ enter_number text graph (Landed (record { 0 = k })) (slice_index graph.blocks.firsts k)

-- ---- all of them

pub record AreLookups (text : Words) (graph : Graph) (l : Lookups) : Type 0 where
  pub edges : AreFirstEdges graph graph.edges l.edges.items
  pub cases : (case : CaseEdge) → get same_case l.cases case ≡ position (is_case graph case) graph.edges
  pub images : AreFirstImages text graph l.images.items
  pub behind : l.behind ≡ open_begin text graph (length graph.opens)
  pub loads : l.loads.items ≡ map (load_of text) graph.opens
  pub entries : l.entries.items ≡ map (first_entry text graph) (below (length graph.opens + 1))

-- They are those of a graph, of which it is known what it is.
pub record AreFound (text : Words) (graph : Graph) (l : Lookups) : Type 0 where
  pub source : IsSource text graph
  pub lookups : AreLookups text graph l

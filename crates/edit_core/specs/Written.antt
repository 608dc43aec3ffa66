-- What is written of an original: cells, tables of addresses, new code and a page for the editor, as segments, and
-- notes of them.
use Rattle.std.specs.Prelude.{◌≡◌, ℕ, zero, suc, ◌+◌, ◌-◌, ◌*◌, ◌/◌, ◌^◌, ◌<◌, ◌≤◌, Bool, true, false, List, [], ◌∷◌, ◌++◌, length, map, replicate, slice_index, take, drop, Some, None, Ok, All}
use Rattle.std.specs.List.{find}
use Rattle.std.specs.Option.{option_map, option_to_list}
use Rattle.eel_base.specs.CodeText.{Words, address_of}
use Rattle.eel_base.specs.declared.numbers.Addr.{Addr}
use Rattle.elf32_sparc.specs.Header.{e_entry}
use Rattle.elf32_sparc.specs.FileFault.{load_fault}
use Rattle.elf32_sparc.specs.Mapping.{mappings}
use Rattle.elf32_sparc.specs.Image.{image_of}
use Rattle.notes.specs.Format.{Notes, NoteSegment, NoteRange, notes_of}
use Rattle.v8_decode.specs.declared.Part.{Part}
use Rattle.notes.specs.Written.{notes_bytes}
use Rattle.elf32_write.specs.Headers.{AddedSegment}
use Rattle.elf32_write.specs.Laws.{mapping_added, AreBytes}
use Rattle.elf32_write.specs.Written.{delta_in, written}
use Rattle.cfg_blocks.specs.Blocks.{below, blocks_of, holding_of}
use Rattle.cfg_normal.specs.declared.Edge.{Edge}
use Rattle.cfg_normal.specs.declared.Slot.{Slot}
use Rattle.cfg_normal.specs.declared.Slot.TheVariants as slots
use Rattle.cfg_normal.specs.Graph.{Graph, graph_of, node_of}
use Rattle.cfg_view.specs.View.{given_in}
use Rattle.cfg_normal.specs.Numbers.{node_number}
use Rattle.liveness.specs.Live.{named_on}
use Rattle.addr_translate.specs.Lookup.{TableAt}
use Rattle.addr_translate.specs.Halves.{IsHalvesOf, halves_size}
use Rattle.addr_translate.specs.Table.{IsTableOf, size_of}
use Rattle.layout.specs.declared.items.Item.{Item}
use Rattle.layout.specs.Laid.{HasShortForms, IsLaid, Placement, long_bytes}
use Rattle.cfg_normal.specs.Opens.{Open}
use Rattle.image_code.specs.Graphs.{case_table, opens_in}
use Rattle.image_code.specs.Simulates.{IsNoLoad, EditSetup}
use Rattle.image_code.specs.Made.{jumps_at, lands_at, piece_list}
use Rattle.image_code.specs.Labels.{case_numbers, enter_number, foreign_number}
use Rattle.image_code.specs.SnippetWords.{codes_of}
use Rattle.snippets.specs.declared.snippet.Op.{Op}
use Rattle.tool_kit.specs.Good.{IsGood}
use Rattle.tool_kit.specs.declared.edge_ref.ToolKind.{ToolKind}
use Rattle.tool_kit.specs.declared.edge_ref.ToolKind.TheVariants as tools
use Rattle.tool_kit.specs.Plans.{AreCounters, Plan}
use Rattle.elf32_write.specs.Kept.{words_bytes, kept}
use Rattle.edit_core.specs.Dead.{AreDead}
use Rattle.edit_core.specs.Taken.{CanEdit, bound_in}
use Rattle.edit_core.specs.Cost.{StoresLittle, TakesFewSteps, short_bound}
use Rattle.edit_core.specs.RunsAlike.{ForEachRun, HaveRunsAlike, edit_of}
use Rattle.edit_core.specs.Faithful.{editor_page, page_size, note_edges, tool_number}

-- tables of addresses as a segment, with the flag PF_R
abbrev pub table_at : TableAt → AddedSegment
table_at table = record { vaddr = table.base; memsz = length table.bytes; flags = 4; bytes = table.bytes }

-- code as a segment, with the flags PF_R and PF_X
abbrev pub code_at : ℕ → List ℕ → AddedSegment
code_at base code = record { vaddr = base; memsz = 4 * length code; flags = 5; bytes = words_bytes code }

-- the editor's page, with the flags PF_R and PF_W
abbrev pub page_segment : AddedSegment
page_segment = record { vaddr = editor_page; memsz = page_size; flags = 6; bytes = replicate page_size 0 }

-- ---- cells: words that can be loaded and stored, which begin as zeros

-- the one thing, where there are any
abbrev pub if_any : {A : Type 0} → ℕ → A → List A
if_any zero one = []
if_any (suc count) one = one ∷ []

-- as a segment without bytes in the file, with the flags PF_R and PF_W
abbrev pub cells_at : ℕ → ℕ → AddedSegment
cells_at base cells = record { vaddr = base; memsz = 4 * cells; flags = 6; bytes = [] }

-- how much room so many words take, in whole pages
abbrev pub cells_size : ℕ → ℕ
cells_size cells = (4 * cells + 4095) / 4096 * 4096

-- the tables stand right behind them
abbrev pub table_after : ℕ → ℕ → ℕ
table_after base cells = base + cells_size cells

-- a segment, and all of them, as notes say them
abbrev pub segment_noted : AddedSegment → NoteSegment
segment_noted s = record { start = s.vaddr; length = s.memsz }

abbrev pub segments_noted : ℕ → ℕ → ℕ → List ℕ → List NoteSegment
segments_noted base cells size code =
    let table = table_after base cells in
    if_any cells (record { start = base; length = 4 * cells }) ++ record { start = table; length = size }
    ∷ record { start = table + size; length = 4 * length code }
    ∷ record { start = editor_page; length = page_size } ∷ []

-- ---- slots behind the text

abbrev pub is_behind : Slot → Bool
is_behind slots.Off = true
is_behind _ = false

abbrev pub is_off : Edge → Bool
is_off edge = is_behind edge.slot

-- Where some edge runs a slot behind the text, the place of that slot is the first word of the tables: at the end of
-- the text, and at the node which the edge leaves.
abbrev pub off_range : Words → Graph → ℕ → Edge → NoteRange
off_range text graph table edge = record {
  lo = table;
  hi = table + 4;
  address = address_of text (length text.words);
  node = node_number graph edge.from;
}

abbrev pub off_ranges : Words → Graph → ℕ → List NoteRange
off_ranges text graph table = option_to_list (option_map (off_range text graph table) (find is_off graph.edges))

-- ---- tables, one right behind the other: that of all addresses, that of two levels, in which jumps look up, and the
-- words with the places of the pieces of Case edges, up to a whole page

abbrev pub tables_size : Words → ℕ
tables_size text = size_of text + halves_size text

-- where the words stand
abbrev pub cases_at : Words → ℕ → ℕ
cases_at text table = table + tables_size text

abbrev pub first_table : Words → TableAt → TableAt
first_table text tables = record { base = tables.base; bytes = take (size_of text) tables.bytes }

abbrev pub second_table : Words → TableAt → TableAt
second_table text tables = record {
  base = jumps_at text tables.base;
  bytes = take (halves_size text) (drop (size_of text) tables.bytes);
}

abbrev pub cases_table : Words → TableAt → TableAt
cases_table text tables = record {
  base = cases_at text tables.base;
  bytes = drop (tables_size text) tables.bytes;
}

-- words, and zeros up to a whole page
abbrev pub whole_pages : List ℕ → List ℕ
whole_pages words = words_bytes words ++ replicate (cells_size (length words) - 4 * length words) 0

pub record AreTablesOf (text : Words) (targets : List Addr) (foreign : Addr) (places : List ℕ) (tables : TableAt)
    : Type 0 where
  pub size : length tables.bytes ≡ tables_size text + cells_size (length places)
  pub low : tables.base + length tables.bytes ≤ 2 ^ 31
  pub first : IsTableOf text targets foreign (first_table text tables)
  pub second : IsHalvesOf text targets foreign (second_table text tables)
  pub cases : (cases_table text tables).bytes ≡ whole_pages places

-- ---- where they lead: from each word of the text to its landing, or to its image where nothing is done on the way, and
-- from all else to the foreign piece; and from each entry of a switch's table to the piece of its Case edge

abbrev pub addr : ℕ → Addr
addr a = record { 0 = a }

abbrev pub landings_of : Words → Graph → List (List Op) → Placement → List Addr
landings_of text graph snips p =
    map (λ word. addr (slice_index p.at (lands_at text graph snips word))) (below (length text.words))

abbrev pub foreign_of : Words → Graph → Placement → Addr
foreign_of text graph p = addr (slice_index p.at (foreign_number text graph))

abbrev pub case_places : Words → Graph → Placement → List ℕ
case_places text graph p = map (λ number. slice_index p.at number) (case_numbers text graph)

-- the piece at which the program begins, which is entered at a word
abbrev pub entry_number : Words → Graph → ℕ → ℕ
entry_number text graph entry = enter_number text graph (node_of graph.blocks (Some entry)) entry

abbrev pub TablesMatch : Words → Graph → List (List Op) → Placement → TableAt → Type 0
TablesMatch text graph snips p table =
    AreTablesOf text (landings_of text graph snips p) (foreign_of text graph p) (case_places text graph p) table

-- how many bytes the tables have
abbrev pub segment_size : Words → Graph → ℕ
segment_size text graph = tables_size text + cells_size (length (case_numbers text graph))

-- ---- the pieces of new code, with the snippets on the cells at `base`, by what is dead behind them

abbrev pub pieces_by : Words → Graph → ℕ → ℕ → (ℕ → List Part) → List (List Op) → List (List Item)
pieces_by text graph base cells dead snips =
    let table = table_after base cells in
    piece_list text graph table (cases_at text table) (codes_of base dead snips)

-- ---- of an original, by what a tool asks of it

module _ (original : List ℕ) (plan : Plan) where
  abbrev pub text_of : Words
  text_of = (image_of original).text

  -- the words that lead besides those of the text's own transfers: where routines start, and those that are marked
  abbrev pub given_of : List ℕ
  given_of = given_in (image_of original) plan.marks

  abbrev pub graph_in : Graph
  graph_in = graph_of (blocks_of text_of given_of) (opens_in text_of given_of (image_of original).entry)

  -- where the cells stand, the tables behind them, and the code right behind those
  abbrev pub cells_base : ℕ
  cells_base = (image_of original).base

  abbrev pub table_base : ℕ
  table_base = table_after cells_base plan.cells

  abbrev pub code_base : ℕ
  code_base = table_base + segment_size text_of graph_in

  abbrev pub pieces_of : (ℕ → List Part) → List (List Item)
  pieces_of dead = pieces_by text_of graph_in cells_base plan.cells dead plan.snips

  -- where the program is entered: the piece of its entry
  abbrev pub entry_of : Placement → ℕ
  entry_of p = slice_index p.at (entry_number text_of graph_in (image_of original).entry)

  -- ---- the segments that are added

  abbrev pub code_segment : Placement → AddedSegment
  code_segment p = code_at code_base p.code

  abbrev pub added : Placement → TableAt → List AddedSegment
  added p table =
      if_any plan.cells (cells_at cells_base plan.cells) ++ table_at table ∷ code_segment p ∷ page_segment ∷ []

  -- ---- the notes

  abbrev pub notes_on : Placement → Notes
  notes_on p = record {
    version = 2;
    delta = delta_in original;
    length = length original;
    tool = tool_number plan.kind;
    start = text_of.start;
    words = length text_of.words;
    entry = holding_of graph_in.blocks (image_of original).entry;
    base = cells_base;
    cells = plan.cells;
    segments = segments_noted cells_base plan.cells (segment_size text_of graph_in) p.code;
    blocks = graph_in.blocks.firsts;
    edges = note_edges graph_in plan.kind graph_in.edges plan.snips;
    ranges = off_ranges text_of graph_in table_base ++ p.ranges;
  }

  -- ---- the file

  abbrev pub edit_file : Placement → TableAt → List ℕ
  edit_file p table = written original (added p table) (entry_of p) (notes_bytes (notes_on p))

-- What can be done on a graph: a good snippet on each edge, and in a profile counters.
pub record IsWorkable (graph : Graph) (kind : ToolKind) (cells : ℕ) (snips : List (List Op)) : Type 0 where
  pub few : cells ≤ 2 ^ 23
  pub size : length snips ≡ length graph.edges
  pub good : All (IsGood cells) snips
  pub counters : kind ≡ tools.Profile → AreCounters 2 0 snips

abbrev pub CanDo : List ℕ → Plan → Type 0
CanDo original plan = IsWorkable (graph_in original plan) plan.kind plan.cells plan.snips

-- The code was laid behind the tables, in no more bytes than its long forms take, and the tables lead to it. Where it
-- is short, no form is long. Its snippets take only what is dead behind them.
pub record IsNewCode (original : List ℕ) (plan : Plan) (p : Placement) (place : ℕ → ℕ → ℕ)
    (table : TableAt) : Type 0 where
  pub dead : ℕ → List Part
  pub exact : AreDead (text_of original plan) (graph_in original plan) (named_on plan.snips) dead
  pub laid : IsLaid (pieces_of original plan dead) (code_base original plan) p place
  pub size : 4 * length p.code ≤ long_bytes (pieces_of original plan dead)
  pub short : 4 * length p.code < short_bound → HasShortForms (pieces_of original plan dead) place
  pub words : All (λ word. word < 2 ^ 32) p.code
  pub base : table.base ≡ table_base original plan
  pub leads : TablesMatch (text_of original plan) (graph_in original plan) plan.snips p table
  pub bytes : AreBytes table.bytes

-- What a written file is: all that those who map it, read its notes or run it need to know.
pub record IsEdit (original : List ℕ) (plan : Plan) (p : Placement) (place : ℕ → ℕ → ℕ) (table : TableAt)
    (file : List ℕ) : Type 0 where
  -- of the original, and what is asked of it
  pub taken : CanEdit original plan
  pub limit : length original ≤ 2 ^ 26
  pub given : AreBytes original
  pub workable : CanDo original plan
  -- of its code and its tables
  pub code : IsNewCode original plan p place table
  -- of the file
  pub bytes : AreBytes file
  pub loads : load_fault file ≡ None
  pub reads : notes_of file ≡ Ok (notes_on original plan p)
  pub mapped : mappings file ≡ map kept (mappings original) ++ map mapping_added (added original plan p table)
  pub entered : e_entry file ≡ entry_of original plan p

-- a file that was written of an original with new code
pub record IsWritten (original : List ℕ) (plan : Plan) (file : List ℕ) : Type 0 where
  pub p : Placement
  pub place : ℕ → ℕ → ℕ
  pub table : TableAt
  pub code : IsNewCode original plan p place table
  pub is : file ≡ edit_file original plan p table

-- the same as one fact: the file is just that one, byte for byte
unfoldable pub IsTheEdit : List ℕ → Plan → List ℕ → Type 0
IsTheEdit original plan file = IsWritten original plan file

-- the switches of an original that are open
abbrev pub switches_in : List ℕ → Plan → List Open
switches_in original plan = opens_in (text_of original plan) (given_of original plan) (image_of original).entry

-- an edit as its code has it, with what is dead behind each edge's snippet
abbrev pub setup_of : List ℕ → Plan → (ℕ → List Part) → Notes → EditSetup
setup_of original plan dead notes = record {
  text = text_of original plan;
  given = given_of original plan;
  snips = plan.snips;
  dead = dead;
  switches = switches_in original plan;
  opens = map (case_table (text_of original plan)) (switches_in original plan);
  notes = notes;
}

-- What the runs of a written file are, and what they take: no address is kept but before the load of an open switch.
pub record RunsOf (original : List ℕ) (plan : Plan) (dead : ℕ → List Part) (file : List ℕ) (notes : Notes) : Type 0 where
  pub alike : HaveRunsAlike original plan file notes
  pub steps : ForEachRun original file (TakesFewSteps (edit_of original plan notes) (image_of original).entry)
  pub stores : ForEachRun original file
      (StoresLittle (edit_of original plan notes) dead (IsNoLoad (setup_of original plan dead notes))
      (bound_in original plan) (image_of original).entry)

-- Whatever meets this has such runs.
abbrev pub EditsRunAlike : Type 0
EditsRunAlike =
    (original : List ℕ) (plan : Plan) (p : Placement) (place : ℕ → ℕ → ℕ) (table : TableAt) (file : List ℕ)
    → (is : IsEdit original plan p place table file)
    → RunsOf original plan is.code.dead file (notes_on original plan p)

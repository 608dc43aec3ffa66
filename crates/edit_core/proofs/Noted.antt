-- The notes on an edit meet their rules.
use Rattle.edit_core.proofs.Common.{◌≡◌, ℕ, zero, suc, nat_tests, ◌+◌, ◌*◌, ◌%◌, ◌^◌, ◌<◌, ◌≤◌, true, Option, Some, List, [], ◌∷◌, ◌++◌, length, length-append, drop, get_or, append_assoc, append-nil, sym, ◌∙◌, map, refl, arith, slice_index, list_any, and_from, eq-eqb, le-leb, lt-ltb, or_left, or_right, big_bytes, Notes, NoteEdge, NoteRange, NoteSegment, holds, AddedSegment, notes_bytes, notes_words, EdgeKind, Edge, Node, Block, Landed, X, Graph, IsEdgeIn, IsNodeIn, node_number, Each, each-then, Ascend, Placement, Op, Count, WorksBelow, WorksIn, ToolKind, AreCounters, Plan, ne_eqb, length-bytes_high_first, length-flat_map, follows, are_segments, are_blocks, are_edges, is_edge, is_free, IsAscending, kind_number, cell_noted, editor_page, note_edge, note_edges, page_size, IsGood, ends_by}
use Rattle.std.proofs.lemmas.List.Folds.{list_any_none}
use Rattle.std.proofs.Common.{add-one, drop-cons, lit<}
use Rattle.std.proofs.Math.ListN.{drop_of_length-le}
use Rattle.notes.specs.Written.{words_bytes, segment_words, edge_words, range_words, cell_word}
use Rattle.tool_kit.specs.declared.edge_ref.ToolKind.TheVariants as tools
use Rattle.edit_core.specs.Written.{cells_at, code_at, code_base, if_any, page_segment, segment_noted, segments_noted, table_after, table_at, text_of, graph_in, notes_on, segment_size, table_base}
use Rattle.edit_core.proofs.Fronts.{any-map, any_past}
use Rattle.edit_core.proofs.Eaches.{all_each}
use Rattle.edit_core.proofs.Ranges.{IsWhole}
use Rattle.edit_core.proofs.Snippets.{begins_within}

-- ---- segments

pub rows_are : (base cells size : ℕ) (tables code : List ℕ) (added : List AddedSegment)
    → added ≡ if_any cells (cells_at base cells) ++ table_at (record { base = table_after base cells; bytes = tables })
    ∷ code_at (table_after base cells + length tables) code ∷ page_segment ∷ []
    → length tables ≡ size → map segment_noted added ≡ segments_noted base cells size code
rows_are base cells size tables code added is long =
    rw (is, any-map segment_noted cells (cells_at base cells), ← long) refl

pub segments_rule : (base cells size : ℕ) (code : List ℕ) → 0 < size → 0 < length code
    → table_after base cells + size + 4 * length code ≤ 2 ^ 31 → are_segments 0 (segments_noted base cells size code) ≡ true
segments_rule base zero size code some more low = grind (arith, nat_tests)
segments_rule base (suc cells) size code some more low = grind (arith, nat_tests)

-- ---- blocks

pub blocks_rule : (words : ℕ) (firsts : List ℕ) (before : Option ℕ)
    → (0 < length firsts → follows before (slice_index firsts 0) ≡ true)
    → IsAscending firsts → ((i : ℕ) → i < length firsts → slice_index firsts i < words)
    → are_blocks words before firsts ≡ true
blocks_rule words [] before f a w = refl
blocks_rule words (x ∷ xs) before f a w =
    and_from _ _ (and_from _ _ (f (omega arith)) (lt-ltb x words (w 0 (omega arith)))) (blocks_rule words xs (Some x)
    (λ l. lt-ltb x (slice_index xs 0) (a 0 1 (omega arith) (omega arith)))
    (λ i j l m. a (suc i) (suc j) (omega arith) (omega arith)) (λ i l. w (suc i) (omega arith)))

-- ---- edges

kind_few : (k : EdgeKind) → kind_number k ≤ 6
kind_few k = grind arith

pub node_few : (graph : Graph) (node : Node) → IsNodeIn graph.blocks graph.opens node
    → node_number graph node ≤ 2 * length graph.blocks.firsts
node_few graph (Block k) l = omega (arith, l)
node_few graph (Landed k) l = omega (arith, l.0)
node_few graph X l = omega arith

-- the edges' rules but for the cell's
ends_rule : (graph : Graph) (kind : ToolKind) (cells : ℕ) (taken : List ℕ) (e : Edge) (ops : List Op)
    → IsEdgeIn graph.blocks graph.opens e → is_free 2 cells taken (cell_noted kind ops) ≡ true
    → is_edge 2 (length graph.blocks.firsts) cells taken (note_edge graph kind e ops) ≡ true
ends_rule graph kind cells taken e ops inside free =
    rw (
      le-leb (kind_number e.kind) 6 (kind_few e.kind),
      le-leb (node_number graph e.from) (2 * length graph.blocks.firsts) (node_few graph e.from inside.from),
      le-leb (node_number graph e.to) (2 * length graph.blocks.firsts) (node_few graph e.to inside.to),
    ) free

-- in a profile each counter has the next two cells, and without one no edge has a cell
pub edges_rule : (graph : Graph) (kind : ToolKind) (cells next : ℕ) (taken : List ℕ) → next % 2 ≡ 0
    → Each (λ other. other < next) taken → (es : List Edge) (snips : List (List Op))
    → Each (IsEdgeIn graph.blocks graph.opens) es → (kind ≡ tools.Profile → AreCounters 2 next snips)
    → Each (IsGood cells) snips
    → are_edges 2 (length graph.blocks.firsts) cells taken (note_edges graph kind es snips) ≡ true
edges_rule graph kind cells next taken even above [] snips each are good = refl
edges_rule graph kind cells next taken even above (e ∷ es) [] each are good = refl
edges_rule graph tools.Profile cells next taken even above (e ∷ es) ([] ∷ snips) each are good =
    and_from _ _ (ends_rule graph tools.Profile cells taken e [] each.0 refl)
    (edges_rule graph tools.Profile cells next taken even above es snips each.1 are good.1)
edges_rule graph tools.Profile cells next taken even above (e ∷ es) ((op ∷ []) ∷ snips) each are good =
    let counts = are refl in
    let works : WorksIn cells (Count next) = rw counts.0 at (good.0.below 0 op (omega arith)) in
    let later : AreCounters 2 (next + 2) snips = rw counts.0 at counts.1 in
    rw counts.0 (and_from _ _ (ends_rule graph tools.Profile cells taken e (Count next ∷ []) each.0
    (rw (
      eq-eqb (next % 2) 0 even,
      le-leb (next + 2) cells works,
      list_any_none _ taken (all_each _ taken
          (each-then _ _ taken (λ other l. ne_eqb other next (λ e. omega (arith, l))) above)),
    ) refl))
    (edges_rule graph tools.Profile cells (next + 2) (next ∷ taken) (omega (arith, even))
    (omega arith, each-then _ (λ other. other < next + 2) taken (λ other l. omega (arith, l)) above) es snips each.1
    (λ _. later) good.1))
edges_rule graph tools.Profile cells next taken even above (e ∷ es) ((op ∷ other ∷ ops) ∷ snips) each are good =
    absurd (are refl)
edges_rule graph kind cells next taken even above (e ∷ es) (ops ∷ snips) each are good =
    and_from _ _ (ends_rule graph kind cells taken e ops each.0 refl)
    (edges_rule graph kind cells next taken even above es snips each.1 (λ profile. absurd (cc)) good.1)

pub edges_count : (graph : Graph) (kind : ToolKind) (es : List Edge) (snips : List (List Op))
    → length (note_edges graph kind es snips) ≤ length es
edges_count graph kind [] snips = omega arith
edges_count graph kind (e ∷ es) [] = omega arith
edges_count graph kind (e ∷ es) (ops ∷ snips) = let later = edges_count graph kind es snips in omega arith

-- ---- words

abbrev pub Fits : ℕ → Type 0
Fits word = word < 2 ^ 32

cell_fits : (cells : ℕ) (kind : ToolKind) (ops : List Op) → cells ≤ 2 ^ 23 → WorksBelow cells ops
    → cell_word (cell_noted kind ops) < 2 ^ 32
cell_fits cells tools.Profile (op ∷ ops) few below =
    let l = begins_within cells op (below 0 op (omega arith)) in omega (arith, l, few)
cell_fits cells kind ops few below = lit< tt

pub edges_fit : (graph : Graph) (kind : ToolKind) (cells : ℕ) (es : List Edge) (snips : List (List Op))
    → length graph.blocks.firsts ≤ 2 ^ 20 → cells ≤ 2 ^ 23 → Each (IsEdgeIn graph.blocks graph.opens) es
    → Each (IsGood cells) snips → Each (λ edge. Each Fits (edge_words edge)) (note_edges graph kind es snips)
edges_fit graph kind cells [] snips few cells_few each below = tt
edges_fit graph kind cells (e ∷ es) [] few cells_few each below = tt
edges_fit graph kind cells (e ∷ es) (ops ∷ snips) few cells_few each below =
    let k = kind_few e.kind in
    let f = node_few graph e.from each.0.from in
    let t = node_few graph e.to each.0.to in
    let c = cell_fits cells kind ops cells_few below.0.below in
    (omega arith, edges_fit graph kind cells es snips few cells_few each.1 below.1)

pub ranges_fit : (graph : Graph) (from to : ℕ) (rs : List NoteRange) → length graph.blocks.firsts ≤ 2 ^ 20 → to ≤ 2 ^ 31
    → Ascend from to rs → Each (IsWhole graph) rs → Each (λ range. Each Fits (range_words range)) rs
ranges_fit graph from to [] few low a each = tt
ranges_fit graph from to (r ∷ rs) few low a each =
    let past = ends_by rs r.hi to a.2 in
    (omega (arith, a.1, each.0.low, each.0.node.few), ranges_fit graph r.hi to rs few low a.2 each.1)

-- how many bytes notes take
pub count_bytes : (n : Notes) → length (notes_bytes n)
    ≤ 64 + 8 * length n.segments + 4 * length n.blocks + 16 * length n.edges + 16 * length n.ranges
unfolding notes_bytes words_bytes
count_bytes n =
    let w = simp length-append at (length-flat_map (big_bytes 4) 4 (length-bytes_high_first 4) (notes_words n)) in
    let s = length-flat_map segment_words 2 (λ x. refl) n.segments in
    let e = length-flat_map edge_words 4 (λ x. refl) n.edges in
    let g = length-flat_map range_words 4 (λ x. refl) n.ranges in
    omega arith

-- ---- pages

module _ (original : List ℕ) (plan : Plan) (p : Placement) where
  abbrev pub behind : List NoteSegment
  behind =
      record { start = table_base original plan; length = segment_size (text_of original plan) (graph_in original plan) }
      ∷ record { start = code_base original plan; length = 4 * length p.code }
      ∷ record { start = editor_page; length = page_size } ∷ []

  -- the code holds what lies in it
  pub code_holds : (lo hi : ℕ) → code_base original plan ≤ lo → hi ≤ code_base original plan + 4 * length p.code
      → list_any (holds lo hi) (notes_on original plan p).segments ≡ true
  code_holds lo hi from to =
      any_past (holds lo hi) plan.cells _ behind
      (or_right _ _ (or_left _ _ (and_from _ _ (le-leb _ _ from) (le-leb _ _ to))))

-- one edge more, as notes have it, and what is left
pub noted_more : (graph : Graph) (kind : ToolKind) (edges : List Edge) (snips : List (List Op)) (n : ℕ) (edge : Edge)
    (ops : List Op) (done all : List NoteEdge) → n < length edges → length snips ≡ length edges
    → edge ≡ get_or edges n edge → ops ≡ get_or snips n []
    → done ++ note_edges graph kind (drop n edges) (drop n snips) ≡ all
    → (done ++ note_edge graph kind edge ops ∷ []) ++ note_edges graph kind (drop (n + 1) edges) (drop (n + 1) snips) ≡ all
noted_more graph kind edges snips n edge ops done all within size here said is =
    rw (append_assoc, add-one)
    (rw (drop-cons edges n edge within, drop-cons snips n [] (omega (arith, within, size)), ← here, ← said) at is)

-- none is left
pub noted_all : (graph : Graph) (kind : ToolKind) (edges : List Edge) (snips : List (List Op)) (n : ℕ)
    (done all : List NoteEdge) → length edges ≤ n
    → done ++ note_edges graph kind (drop n edges) (drop n snips) ≡ all → done ≡ all
noted_all graph kind edges snips n done all past is =
    sym (append-nil done) ∙ rw (drop_of_length-le edges past) at is

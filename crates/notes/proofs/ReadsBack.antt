-- What was written reads back.
use Rattle.notes.proofs.Common.{◌≡◌, ℕ, ◌+◌, ◌*◌, ◌%◌, ◌<◌, ◌≤◌, ◌^◌, true, not, ◌&&◌, ◌==◌, List, [], ◌∷◌, ◌++◌, length, Option, Some, None, Ok, refl, ap, ◌∙◌, arith, nat_le, nat_lt, flat_map, list_any, All, and_parts, and_from, or_right, le-leb, lt-ltb, eq-eqb, ne_eqb, length-append, big_bytes, length-bytes_high_first, NoteSegment, NoteEdge, NoteRange, Notes, note_at, follows, no_cell, cell_of, is_cell, is_counter, counter_width, last_tool, most_cells, byte_count, segments_at, blocks_at, edges_at, ranges_at, read_notes, Head, block_count_at, head_of, tables_of, AreNotes, is_segment, are_segments, are_blocks, is_free, is_edge, with_cell, are_edges, is_range, are_ranges, words_bytes, cell_word, segment_words, edge_words, range_words, notes_words, notes_bytes}
use Rattle.notes.proofs.Bytes.{length-flat_map}
use Rattle.notes.proofs.CellMarks.{counter_below, few_cells, has_width}
use Rattle.notes.proofs.Kept.{Alike, alike_more}
use Rattle.notes.proofs.Whole.{in_parts}
use Rattle.notes.proofs.WordsRead.{HasWords, move, both, has_words}

pub segments_back : (notes : List ℕ) (at end : ℕ) (rows : List NoteSegment) → HasWords notes at (flat_map segment_words rows) → are_segments end rows ≡ true → segments_at notes at end (length rows) ≡ Ok rows
unfolding segments_at
segments_back notes at end [] has rule = refl
segments_back notes at end (row ∷ rows) has rule =
    let parts = and_parts (is_segment end row) (are_segments (row.start + row.length) rows) rule in
    let rest = segments_back notes (at + 8) (row.start + row.length) rows (move notes (flat_map segment_words rows) (at + 4 + 4) (at + 8) (omega arith) has.1.1) parts.1 in
    rw (has.0, has.1.0, parts.0, rest) refl

pub blocks_back : (words : ℕ) (notes : List ℕ) (at : ℕ) (before : Option ℕ) (rows : List ℕ) → HasWords notes at rows → are_blocks words before rows ≡ true → blocks_at words notes at before (length rows) ≡ Ok rows
unfolding blocks_at
blocks_back words notes at before [] has rule = refl
blocks_back words notes at before (row ∷ rows) has rule =
    let parts = and_parts (follows before row && nat_lt row words) (are_blocks words (Some row) rows) rule in
    let rest = blocks_back words notes (at + 4) (Some row) rows has.1 parts.1 in
    rw (has.0, parts.0, rest) refl

pub ranges_back : (blocks : ℕ) (segments : List NoteSegment) (notes : List ℕ) (at end : ℕ) (rows : List NoteRange) → HasWords notes at (flat_map range_words rows) → are_ranges blocks segments end rows ≡ true → ranges_at blocks segments notes at end (length rows) ≡ Ok rows
unfolding ranges_at
ranges_back blocks segments notes at end [] has rule = refl
ranges_back blocks segments notes at end (row ∷ rows) has rule =
    let parts = and_parts (is_range blocks segments end row) (are_ranges blocks segments row.hi rows) rule in
    let second = move notes (row.address ∷ row.node ∷ flat_map range_words rows) (at + 4 + 4) (at + 8) (omega arith) has.1.1 in
    let third = move notes (row.node ∷ flat_map range_words rows) (at + 8 + 4) (at + 12) (omega arith) second.1 in
    let rest = ranges_back blocks segments notes (at + 16) row.hi rows (move notes (flat_map range_words rows) (at + 12 + 4) (at + 16) (omega arith) third.1) parts.1 in
    rw (has.0, has.1.0, second.0, third.0, parts.0, rest) refl

-- a free cell's word is no cell's, or stands for a counter that isn't taken
free_word : (width cells : ℕ) → 0 < width → (words taken : List ℕ) (cell : Option ℕ) → Alike cells words taken
    → is_free width cells taken cell ≡ true → is_cell width cells words (cell_word cell) ≡ true
free_word width cells wide words taken None alike free = refl
free_word width cells wide words taken (Some cell) alike free =
    let parts = and_parts (is_counter width cells cell) (not (list_any (λ other. other == cell) taken)) free in
    let same = alike cell (counter_below width cells cell wide parts.0) in
    or_right (cell == no_cell) (is_counter width cells cell && not (list_any (λ other. other == cell) words))
    (and_from (is_counter width cells cell) (not (list_any (λ other. other == cell) words)) parts.0 (ap not same ∙ parts.1))

-- and the word gives the cell again
word_cell : (width cells : ℕ) → 0 < width → (taken : List ℕ) (cell : Option ℕ) → cells ≤ 2 ^ 23
    → is_free width cells taken cell ≡ true → cell_of (cell_word cell) ≡ cell
word_cell width cells wide taken None few free = refl
word_cell width cells wide taken (Some cell) few free =
    let parts = and_parts (is_counter width cells cell) (not (list_any (λ other. other == cell) taken)) free in
    let below = counter_below width cells cell wide parts.0 in
    rw (ne_eqb cell no_cell (λ is. absurd (omega arith))) refl

pub edges_back : (width blocks cells : ℕ) → 0 < width → cells ≤ 2 ^ 23 → (notes : List ℕ) (at : ℕ) (words taken : List ℕ)
    → Alike cells words taken → (rows : List NoteEdge) → HasWords notes at (flat_map edge_words rows)
    → are_edges width blocks cells taken rows ≡ true → edges_at width blocks cells notes at words (length rows) ≡ Ok rows
unfolding edges_at
edges_back width blocks cells wide few notes at words taken alike [] has rule = refl
edges_back width blocks cells wide few notes at words taken alike (row ∷ rows) has rule =
    let parts = and_parts (is_edge width blocks cells taken row) (are_edges width blocks cells (with_cell row.cell taken) rows) rule in
    let between = nat_le row.kind 6 && nat_le row.from (2 * blocks) && nat_le row.to (2 * blocks) in
    let own = and_parts between (is_free width cells taken row.cell) parts.0 in
    let judged = and_from between (is_cell width cells words (cell_word row.cell)) own.0
    (free_word width cells wide words taken row.cell alike own.1) in
    let second = move notes (row.to ∷ cell_word row.cell ∷ flat_map edge_words rows) (at + 4 + 4) (at + 8) (omega arith) has.1.1 in
    let third = move notes (cell_word row.cell ∷ flat_map edge_words rows) (at + 8 + 4) (at + 12) (omega arith) second.1 in
    let rest = edges_back width blocks cells wide few notes (at + 16) (cell_word row.cell ∷ words) (with_cell row.cell taken)
    (alike_more cells few words taken row.cell alike) rows
    (move notes (flat_map edge_words rows) (at + 12 + 4) (at + 16) (omega arith) third.1) parts.1 in
    rw (has.0, has.1.0, second.0, third.0, judged, rest)
    (ap (λ (cell : Option ℕ). Ok (record { kind = row.kind; from = row.from; to = row.to; cell = cell } ∷ rows))
    (word_cell width cells wide taken row.cell few own.1))

-- The words that a reading comes by.
pub record Found (bytes : List ℕ) (n : Notes) : Type 0 where
  pub delta : note_at bytes 0 ≡ Ok n.delta
  pub length_is : note_at bytes 4 ≡ Ok n.length
  pub tool : note_at bytes 8 ≡ Ok n.tool
  pub start : note_at bytes 12 ≡ Ok n.start
  pub words : note_at bytes 16 ≡ Ok n.words
  pub entry : note_at bytes 20 ≡ Ok n.entry
  pub base : note_at bytes 24 ≡ Ok n.base
  pub cells : note_at bytes 28 ≡ Ok n.cells
  pub segment_count : note_at bytes 32 ≡ Ok (length n.segments)
  pub segments : HasWords bytes 36 (flat_map segment_words n.segments)
  pub block_count : note_at bytes (36 + 8 * length n.segments) ≡ Ok (length n.blocks)
  pub blocks : HasWords bytes (36 + 8 * length n.segments + 4) n.blocks
  pub edge_count : note_at bytes (36 + 8 * length n.segments + 4 + 4 * length n.blocks) ≡ Ok (length n.edges)
  pub edges : HasWords bytes (36 + 8 * length n.segments + 4 + 4 * length n.blocks + 4) (flat_map edge_words n.edges)
  pub range_count : note_at bytes (36 + 8 * length n.segments + 4 + 4 * length n.blocks + 4 + 16 * length n.edges) ≡ Ok (length n.ranges)
  pub ranges : HasWords bytes (36 + 8 * length n.segments + 4 + 4 * length n.blocks + 4 + 16 * length n.edges + 4) (flat_map range_words n.ranges)
  pub size : byte_count bytes ≡ 36 + 8 * length n.segments + 4 + 4 * length n.blocks + 4 + 16 * length n.edges + 4 + 16 * length n.ranges

head_back : (size : ℕ) (bytes : List ℕ) (n : Notes) → Found bytes n → AreNotes n → n.delta + n.length ≤ size → head_of n.version size bytes ≡ Ok (record {
  version = n.version;
  delta = n.delta;
  length = n.length;
  tool = n.tool;
  start = n.start;
  words = n.words;
  entry = n.entry;
  base = n.base;
  cells = n.cells;
  segment_count = length n.segments;
})
unfolding head_of
head_back size bytes n found are inside =
    let starts = are.start in
    let texts = are.words in
    let bases = are.base in
    rw (found.delta, le-leb 4096 n.delta are.delta, found.length_is, le-leb (n.delta + n.length) size inside, found.tool, le-leb n.tool (last_tool n.version) are.tool, found.start, eq-eqb (n.start % 4) 0 starts.0, le-leb 0x1000 n.start starts.1, found.words, le-leb 1 n.words texts.0, le-leb n.words (2 ^ 20) texts.1, le-leb (n.start + 4 * n.words) 0x80000000 texts.2, found.entry, found.base, found.cells, eq-eqb (n.base % 4) 0 bases.0, le-leb (n.base + 4 * n.cells) (2 ^ 32) bases.1, le-leb n.cells (most_cells n.version) are.cells, found.segment_count, le-leb (length n.segments) 8 are.segment_count) refl

count_back : (entry words : ℕ) (bytes : List ℕ) (at count : ℕ) → note_at bytes at ≡ Ok count → entry < count → count ≤ words → block_count_at entry words bytes at ≡ Ok count
unfolding block_count_at
count_back entry words bytes at count is entered held =
    rw (is, lt-ltb entry count entered, le-leb 1 count (omega arith), le-leb count words held) refl

tables_back : (bytes : List ℕ) (n : Notes) → Found bytes n → AreNotes n → (head : Head) → head ≡ record {
  version = n.version;
  delta = n.delta;
  length = n.length;
  tool = n.tool;
  start = n.start;
  words = n.words;
  entry = n.entry;
  base = n.base;
  cells = n.cells;
  segment_count = length n.segments;
} → tables_of bytes head ≡ Ok n
unfolding tables_of
tables_back bytes n found are head same =
    rw (
      same,
      segments_back bytes 36 0 n.segments found.segments are.segments,
      count_back n.entry n.words bytes (36 + 8 * length n.segments) (length n.blocks) found.block_count are.entry are.block_count,
      blocks_back n.words bytes (36 + 8 * length n.segments + 4) None n.blocks found.blocks are.blocks,
      found.edge_count,
      lt-ltb (length n.edges) (2 ^ 24) are.edge_count,
      edges_back (counter_width n.version) (length n.blocks) n.cells (has_width n.version) (few_cells n.version n.cells are.cells) bytes (36 + 8 * length n.segments + 4 + 4 * length n.blocks + 4) [] [] (λ cell below. refl) n.edges found.edges are.edges,
      found.range_count,
      lt-ltb (length n.ranges) (2 ^ 26) are.range_count,
      ranges_back (length n.blocks) n.segments bytes (36 + 8 * length n.segments + 4 + 4 * length n.blocks + 4 + 16 * length n.edges + 4) 0 n.ranges found.ranges are.ranges,
      eq-eqb (byte_count bytes) (36 + 8 * length n.segments + 4 + 4 * length n.blocks + 4 + 16 * length n.edges + 4 + 16 * length n.ranges) found.size,
    ) refl

pub read_back : (n : Notes) (size : ℕ) (bytes : List ℕ) → Found bytes n → AreNotes n → n.delta + n.length ≤ size → read_notes n.version size bytes ≡ Ok n
read_back n size bytes found are inside =
    in_parts n.version size bytes ∙ rw (head_back size bytes n found are inside) (tables_back bytes n found are _ refl)

-- each row has so many words
words_long : (ws : List ℕ) → length (words_bytes ws) ≡ 4 * length ws
unfolding words_bytes
words_long ws = length-flat_map (big_bytes 4) 4 (length-bytes_high_first 4) ws

found_in : (n : Notes) (bytes : List ℕ) → HasWords bytes 0 (notes_words n) → length bytes ≡ 4 * length (notes_words n) → Found bytes n
found_in n bytes has whole =
    let numbers = n.delta ∷ n.length ∷ n.tool ∷ n.start ∷ n.words ∷ n.entry ∷ n.base ∷ n.cells ∷ [] in
    let segments = length n.segments ∷ flat_map segment_words n.segments in
    let blocks = length n.blocks ∷ n.blocks in
    let edges = length n.edges ∷ flat_map edge_words n.edges in
    let ranges = length n.ranges ∷ flat_map range_words n.ranges in
    let to_ranges = both bytes 0 (numbers ++ segments ++ blocks ++ edges) ranges has in
    let to_edges = both bytes 0 (numbers ++ segments ++ blocks) edges to_ranges.first in
    let to_blocks = both bytes 0 (numbers ++ segments) blocks to_edges.first in
    let to_segments = both bytes 0 numbers segments to_blocks.first in
    let first = to_segments.first in
    let s = length-flat_map segment_words 2 (λ x. refl) n.segments in
    let e = length-flat_map edge_words 4 (λ x. refl) n.edges in
    let r = length-flat_map range_words 4 (λ x. refl) n.ranges in
    let l1 = length-append numbers segments in
    let l2 = length-append (numbers ++ segments) blocks in
    let l3 = length-append (numbers ++ segments ++ blocks) edges in
    let l4 = length-append (numbers ++ segments ++ blocks ++ edges) ranges in
    let blocks_are = move bytes blocks (0 + 4 * length (numbers ++ segments)) (36 + 8 * length n.segments) (omega arith) to_blocks.second in
    let edges_are = move bytes edges (0 + 4 * length (numbers ++ segments ++ blocks)) (36 + 8 * length n.segments + 4 + 4 * length n.blocks) (omega arith) to_edges.second in
    let ranges_are = move bytes ranges (0 + 4 * length (numbers ++ segments ++ blocks ++ edges)) (36 + 8 * length n.segments + 4 + 4 * length n.blocks + 4 + 16 * length n.edges) (omega arith) to_ranges.second in
    let size : byte_count bytes ≡ 36 + 8 * length n.segments + 4 + 4 * length n.blocks + 4 + 16 * length n.edges + 4 + 16 * length n.ranges = omega arith in
    assumption

pub written_back : (n : Notes) (size : ℕ) → AreNotes n → All (λ word. word < 2 ^ 32) (notes_words n) → n.delta + n.length ≤ size → read_notes n.version size (notes_bytes n) ≡ Ok n
unfolding notes_bytes
written_back n size are fits inside =
    read_back n size (words_bytes (notes_words n)) (found_in n (words_bytes (notes_words n)) (has_words [] (notes_words n) fits) (words_long (notes_words n))) are inside

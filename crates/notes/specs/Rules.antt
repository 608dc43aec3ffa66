-- The rules that notes meet, but for the one that names the size of their file.
use Rattle.std.specs.Prelude.{◌≡◌, ◌≤◌, ◌<◌, ℕ, ◌+◌, ◌*◌, ◌%◌, ◌^◌, Bool, true, not, ◌&&◌, ◌==◌, nat_lt, nat_le, IsTrue, List, [], ◌∷◌, length, Option, Some, None}
use Rattle.std.specs.List.{list_any}
use Rattle.notes.specs.Format.{NoteSegment, NoteEdge, NoteRange, Notes, counter_width, follows, holds, is_counter, is_version, last_tool, most_cells}

-- A page begins at `end` or above, has a byte, and ends at 2^32 at most.
abbrev pub is_segment : ℕ → NoteSegment → Bool
is_segment end segment = nat_le end segment.start && nat_lt 0 segment.length && nat_le (segment.start + segment.length) (2 ^ 32)

-- pages that ascend from `end` on
abbrev pub are_segments : ℕ → List NoteSegment → Bool
are_segments end [] = true
are_segments end (segment ∷ others) = is_segment end segment && are_segments (segment.start + segment.length) others

-- blocks by their first words, the first of which is 0, in a text of so many words
abbrev pub are_blocks : ℕ → Option ℕ → List ℕ → Bool
are_blocks words before [] = true
are_blocks words before (first ∷ others) = follows before first && nat_lt first words && are_blocks words (Some first) others

-- none, or that of a counter which is not yet taken
abbrev pub is_free : ℕ → ℕ → List ℕ → Option ℕ → Bool
is_free width cells taken None = true
is_free width cells taken (Some cell) = is_counter width cells cell && not (list_any (λ other. other == cell) taken)

-- An edge has one of the seven kinds, and leads between nodes: the blocks, one more, and then landed copies of blocks.
abbrev pub is_edge : ℕ → ℕ → ℕ → List ℕ → NoteEdge → Bool
is_edge width blocks cells taken edge =
    nat_le edge.kind 6 && nat_le edge.from (2 * blocks) && nat_le edge.to (2 * blocks)
    && is_free width cells taken edge.cell

-- the cells that are taken, one more where the edge has one
abbrev pub with_cell : Option ℕ → List ℕ → List ℕ
with_cell None taken = taken
with_cell (Some cell) taken = cell ∷ taken

-- edges no two of which have one cell
abbrev pub are_edges : ℕ → ℕ → ℕ → List ℕ → List NoteEdge → Bool
are_edges width blocks cells taken [] = true
are_edges width blocks cells taken (edge ∷ others) =
    is_edge width blocks cells taken edge && are_edges width blocks cells (with_cell edge.cell taken) others

-- A place begins at `end` or above and isn't empty. It lies in a page, and all is a multiple of 4 but the node.
abbrev pub is_range : ℕ → List NoteSegment → ℕ → NoteRange → Bool
is_range blocks segments end range = (range.lo % 4 == 0) && (range.hi % 4 == 0) && (range.address % 4 == 0) && nat_lt range.lo range.hi && nat_le end range.lo && list_any (holds range.lo range.hi) segments && nat_le range.node (2 * blocks)

-- places that ascend from `end` on
abbrev pub are_ranges : ℕ → List NoteSegment → ℕ → List NoteRange → Bool
are_ranges blocks segments end [] = true
are_ranges blocks segments end (range ∷ others) = is_range blocks segments end range && are_ranges blocks segments range.hi others

pub record AreNotes (notes : Notes) : Type 0 where
  pub version : is_version notes.version ≡ true
  pub delta : 4096 ≤ notes.delta
  pub tool : notes.tool ≤ last_tool notes.version
  pub start : (notes.start % 4 ≡ 0) × (0x1000 ≤ notes.start)
  pub words : (1 ≤ notes.words) × (notes.words ≤ 2 ^ 20) × (notes.start + 4 * notes.words ≤ 0x80000000)
  pub entry : notes.entry < length notes.blocks
  pub base : (notes.base % 4 ≡ 0) × (notes.base + 4 * notes.cells ≤ 2 ^ 32)
  pub cells : notes.cells ≤ most_cells notes.version
  pub segment_count : length notes.segments ≤ 8
  pub segments : IsTrue (are_segments 0 notes.segments)
  pub block_count : length notes.blocks ≤ notes.words
  pub blocks : IsTrue (are_blocks notes.words None notes.blocks)
  pub edge_count : length notes.edges < 2 ^ 24
  pub edges : IsTrue (are_edges (counter_width notes.version) (length notes.blocks) notes.cells [] notes.edges)
  pub range_count : length notes.ranges < 2 ^ 26
  pub ranges : IsTrue (are_ranges (length notes.blocks) notes.segments 0 notes.ranges)

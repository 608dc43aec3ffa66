-- The parts of which reading is made: the numbers before the tables, a row of each table, and marks of the cells that
-- are taken.
use Rattle.std.specs.Prelude.{ℕ, ◌+◌, ◌*◌, ◌%◌, ◌^◌, Bool, true, false, not, ◌&&◌, ◌||◌, ◌==◌, nat_lt, nat_le, List, length, get_or, slice_set, Option, Some, None, Result, Ok}
use Rattle.notes.specs.Format.{NoteHead, NoteSegment, NoteEdge, NoteRange, NoNotes, ◌>>=◌, note_at, note_that, kept, last_tool, most_cells, follows, no_cell, cell_of, is_counter}
use Rattle.notes.specs.Rules.{is_segment, is_range}

-- ---- numbers

-- where the original stands, and how many bytes it has
unfoldable pub original_at : ℕ → List ℕ → Result (ℕ × ℕ) NoNotes
original_at size notes = do
  delta ← note_that (λ delta. nat_le 4096 delta) notes 0
  length ← note_that (λ length. nat_le (delta + length) size) notes 4
  Ok (delta, length)

-- where the text starts, and how many words it has
unfoldable pub text_at : List ℕ → Result (ℕ × ℕ) NoNotes
text_at notes = do
  start ← note_that (λ start. (start % 4 == 0) && nat_le 0x1000 start) notes 12
  words ← note_that (λ words. nat_le 1 words && nat_le words (2 ^ 20) && nat_le (start + 4 * words) 0x80000000) notes 16
  Ok (start, words)

-- where the cells start, and how many there are
unfoldable pub cells_at : ℕ → List ℕ → Result (ℕ × ℕ) NoNotes
cells_at version notes = do
  base_read ← note_at notes 24
  cells_read ← note_at notes 28
  base ← kept ((base_read % 4 == 0) && nat_le (base_read + 4 * cells_read) (2 ^ 32)) 24 base_read
  cells ← kept (nat_le cells_read (most_cells version)) 28 cells_read
  Ok (base, cells)

-- all of them, of this version, in a file of this size
unfoldable pub head_at : ℕ → ℕ → List ℕ → Result NoteHead NoNotes
head_at version size notes = do
  original ← original_at size notes
  tool ← note_that (λ tool. nat_le tool (last_tool version)) notes 8
  text ← text_at notes
  entry ← note_at notes 20
  counters ← cells_at version notes
  segment_count ← note_that (λ count. nat_le count 8) notes 32
  Ok (record {
    version = version;
    delta = original.0;
    length = original.1;
    tool = tool;
    start = text.0;
    words = text.1;
    entry = entry;
    base = counters.0;
    cells = counters.1;
    segment_count = segment_count;
  })

-- ---- rows

unfoldable pub segment_at : ℕ → List ℕ → ℕ → Result NoteSegment NoNotes
segment_at end notes at = do
  start ← note_at notes at
  length ← note_at notes (at + 4)
  kept (is_segment end (record { start = start; length = length })) at (record { start = start; length = length })

unfoldable pub block_at : ℕ → Option ℕ → List ℕ → ℕ → Result ℕ NoNotes
block_at words before notes at = note_that (λ first. follows before first && nat_lt first words) notes at

-- `is_free` says which words an edge's cell may be
unfoldable pub edge_at : ℕ → (ℕ → Bool) → List ℕ → ℕ → Result NoteEdge NoNotes
edge_at blocks is_free notes at = do
  kind ← note_at notes at
  from ← note_at notes (at + 4)
  to ← note_at notes (at + 8)
  cell ← note_at notes (at + 12)
  kept (nat_le kind 6 && nat_le from (2 * blocks) && nat_le to (2 * blocks) && is_free cell) at (record { kind = kind; from = from; to = to; cell = cell_of cell })

unfoldable pub range_at : ℕ → List NoteSegment → ℕ → List ℕ → ℕ → Result NoteRange NoNotes
range_at blocks segments end notes at = do
  lo ← note_at notes at
  hi ← note_at notes (at + 4)
  address ← note_at notes (at + 8)
  node ← note_at notes (at + 12)
  kept (is_range blocks segments end (record { lo = lo; hi = hi; address = address; node = node })) at (record { lo = lo; hi = hi; address = address; node = node })

-- Cells that are taken, as marks by number.

-- no cell, or that of a counter of so many cells, where it isn't marked
abbrev pub is_open : ℕ → List Bool → ℕ → Bool
is_open width marks word =
    (word == no_cell) || (is_counter width (length marks) word && not (get_or marks word false))

-- the marks, with that of a cell set
abbrev pub with_mark : Option ℕ → List Bool → List Bool
with_mark None marks = marks
with_mark (Some cell) marks = slice_set marks cell true

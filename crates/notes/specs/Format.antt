-- The notes of a written file: where they stand, what each word of them must be, and what they say. They
-- are big-endian words, one after the other.
use Rattle.std.specs.Prelude.{ℕ, zero, suc, ◌+◌, ◌*◌, ◌%◌, ◌^◌, Bool, not, ◌&&◌, ◌||◌, ◌==◌, nat_lt, nat_le, if◌then◌else◌, List, [], ◌∷◌, length, take, drop, Option, Some, None, Result, Ok, Err}
use Rattle.std.specs.List.{list_any, find}
use Rattle.std.specs.Option.{option_map, option_or}
use Rattle.eel_base.specs.Fields.{be_field}
use Rattle.elf32_sparc.specs.Header.{word_at}

-- What notes say.

-- a page that was added
pub record NoteSegment : Type 0 where
  pub start : ℕ
  pub length : ℕ

-- an edge, and the cell that counts it, where one does
pub record NoteEdge : Type 0 where
  pub kind : ℕ
  pub from : ℕ
  pub to : ℕ
  pub cell : Option ℕ

-- a place: from `lo` to `hi` stands the instruction of `address`, for a visit of `node`
pub record NoteRange : Type 0 where
  pub lo : ℕ
  pub hi : ℕ
  pub address : ℕ
  pub node : ℕ

-- of version 1 or 2
pub record Notes : Type 0 where
  pub version : ℕ
  pub delta : ℕ
  pub length : ℕ
  pub tool : ℕ
  pub start : ℕ
  pub words : ℕ
  pub entry : ℕ
  pub base : ℕ
  pub cells : ℕ
  pub segments : List NoteSegment
  pub blocks : List ℕ
  pub edges : List NoteEdge
  pub ranges : List NoteRange

-- Why a file has none that can be read: it has none, or the word at an offset in them is missing or
-- breaks its rule.
pub data NoNotes : Type 0 where
  Absent : NoNotes
  Bad : ℕ → NoNotes

-- What the two versions limit otherwise: the tools, how many cells there are, and how many of them a counter has.

abbrev pub is_version : ℕ → Bool
is_version version = (version == 1) || (version == 2)

abbrev pub last_tool : ℕ → ℕ
last_tool version = if version == 1 then 2 else 3

abbrev pub most_cells : ℕ → ℕ
most_cells version = if version == 1 then 2 ^ 22 else 2 ^ 23

abbrev pub counter_width : ℕ → ℕ
counter_width version = if version == 1 then 1 else 2

-- Reading, from left to right.

-- how many bytes there are
abbrev pub byte_count : List ℕ → ℕ
byte_count bytes = length bytes

infixl 10 ◌>>=◌
abbrev pub ◌>>=◌ : {A B E : Type 0} → Result A E → (A → Result B E) → Result B E
(Ok x) >>= f = f x
(Err e) >>= f = Err e

-- a word that is there
abbrev pub found : Option ℕ → ℕ → Result ℕ NoNotes
found (Some word) at = Ok word
found None at = Err (Bad at)

abbrev pub note_at : List ℕ → ℕ → Result ℕ NoNotes
note_at notes at = found (be_field 4 notes at) at

-- a rule for what stands at an offset, once `value` was read
abbrev pub kept : {A : Type 0} → Bool → ℕ → A → Result A NoNotes
kept rule at value = if rule then Ok value else Err (Bad at)

-- a word with a rule
abbrev pub note_that : (ℕ → Bool) → List ℕ → ℕ → Result ℕ NoNotes
note_that rule notes at = do
  word ← note_at notes at
  kept (rule word) at word

-- The pages: they ascend from `end` on, are disjoint and not empty, and end at 2^32 at most.
unfoldable pub segments_at : List ℕ → ℕ → ℕ → ℕ → Result (List NoteSegment) NoNotes
segments_at notes at end zero = Ok []
segments_at notes at end (suc count) = do
  start ← note_at notes at
  length ← note_at notes (at + 4)
  segment ← kept (nat_le end start && nat_lt 0 length && nat_le (start + length) (2 ^ 32)) at (record { start = start; length = length })
  others ← segments_at notes (at + 8) (start + length) count
  Ok (segment ∷ others)

-- the first block begins at word 0, and each other after the one before it
abbrev pub follows : Option ℕ → ℕ → Bool
follows None first = first == 0
follows (Some before) first = nat_lt before first

-- The blocks, by their first words, which are below `words`.
unfoldable pub blocks_at : ℕ → List ℕ → ℕ → Option ℕ → ℕ → Result (List ℕ) NoNotes
blocks_at words notes at before zero = Ok []
blocks_at words notes at before (suc count) = do
  first ← note_that (λ first. follows before first && nat_lt first words) notes at
  others ← blocks_at words notes (at + 4) (Some first) count
  Ok (first ∷ others)

-- no cell
abbrev pub no_cell : ℕ
no_cell = 0xffffffff

abbrev pub cell_of : ℕ → Option ℕ
cell_of word = if word == no_cell then None else Some word

-- The first cell of a counter of so many cells: a multiple of their number, and all of them are among the `cells`.
abbrev pub is_counter : ℕ → ℕ → ℕ → Bool
is_counter width cells cell = (cell % width == 0) && nat_le (cell + width) cells

-- no cell, or that of a counter which is not yet taken
abbrev pub is_cell : ℕ → ℕ → List ℕ → ℕ → Bool
is_cell width cells taken word =
    (word == no_cell) || (is_counter width cells word && not (list_any (λ cell. cell == word) taken))

-- The edges, of the seven kinds 0 to 6. Nodes are the blocks, one more, and then landed copies of blocks.
unfoldable pub edges_at : ℕ → ℕ → ℕ → List ℕ → ℕ → List ℕ → ℕ → Result (List NoteEdge) NoNotes
edges_at width blocks cells notes at taken zero = Ok []
edges_at width blocks cells notes at taken (suc count) = do
  kind ← note_at notes at
  from ← note_at notes (at + 4)
  to ← note_at notes (at + 8)
  cell ← note_at notes (at + 12)
  edge ← kept (nat_le kind 6 && nat_le from (2 * blocks) && nat_le to (2 * blocks) && is_cell width cells taken cell) at (record { kind = kind; from = from; to = to; cell = cell_of cell })
  others ← edges_at width blocks cells notes (at + 16) (cell ∷ taken) count
  Ok (edge ∷ others)

-- the segment holds the addresses from `lo` to `hi`
abbrev pub holds : ℕ → ℕ → NoteSegment → Bool
holds lo hi segment = nat_le segment.start lo && nat_le hi (segment.start + segment.length)

-- The places: multiples of 4, which ascend from `end` on, are disjoint and not empty, each in a page.
unfoldable pub ranges_at : ℕ → List NoteSegment → List ℕ → ℕ → ℕ → ℕ → Result (List NoteRange) NoNotes
ranges_at blocks segments notes at end zero = Ok []
ranges_at blocks segments notes at end (suc count) = do
  lo ← note_at notes at
  hi ← note_at notes (at + 4)
  address ← note_at notes (at + 8)
  node ← note_at notes (at + 12)
  range ← kept ((lo % 4 == 0) && (hi % 4 == 0) && (address % 4 == 0) && nat_lt lo hi && nat_le end lo && list_any (holds lo hi) segments && nat_le node (2 * blocks)) at (record { lo = lo; hi = hi; address = address; node = node })
  others ← ranges_at blocks segments notes (at + 16) hi count
  Ok (range ∷ others)

-- The numbers before the tables.
pub record NoteHead : Type 0 where
  pub version : ℕ
  pub delta : ℕ
  pub length : ℕ
  pub tool : ℕ
  pub start : ℕ
  pub words : ℕ
  pub entry : ℕ
  pub base : ℕ
  pub cells : ℕ
  pub segment_count : ℕ

-- They are the first nine words, of this version, in a file of this size. The rule of the cells' address waits for the
-- number of cells.
unfoldable pub head_of : ℕ → ℕ → List ℕ → Result NoteHead NoNotes
head_of version size notes = do
  delta ← note_that (λ delta. nat_le 4096 delta) notes 0
  length ← note_that (λ length. nat_le (delta + length) size) notes 4
  tool ← note_that (λ tool. nat_le tool (last_tool version)) notes 8
  start ← note_that (λ start. (start % 4 == 0) && nat_le 0x1000 start) notes 12
  words ← note_that (λ words. nat_le 1 words && nat_le words (2 ^ 20) && nat_le (start + 4 * words) 0x80000000) notes 16
  entry ← note_at notes 20
  base_read ← note_at notes 24
  cells_read ← note_at notes 28
  base ← kept ((base_read % 4 == 0) && nat_le (base_read + 4 * cells_read) (2 ^ 32)) 24 base_read
  cells ← kept (nat_le cells_read (most_cells version)) 28 cells_read
  segment_count ← note_that (λ count. nat_le count 8) notes 32
  Ok (record {
    version = version;
    delta = delta;
    length = length;
    tool = tool;
    start = start;
    words = words;
    entry = entry;
    base = base;
    cells = cells;
    segment_count = segment_count;
  })

-- The number of blocks, of a text of so many words that is entered at the block `entry`, whose rule waits for it.
unfoldable pub block_count_at : ℕ → ℕ → List ℕ → ℕ → Result ℕ NoNotes
block_count_at entry words notes at = do
  count ← note_at notes at
  below ← kept (nat_lt entry count) 20 entry
  kept (nat_le 1 count && nat_le count words) at count

-- What comes after the numbers: the tables, and nothing behind the last place.
unfoldable pub tables_of : List ℕ → NoteHead → Result Notes NoNotes
tables_of notes head = do
  segments ← segments_at notes 36 0 head.segment_count
  let blocks_place = 36 + 8 * head.segment_count
  block_count ← block_count_at head.entry head.words notes blocks_place
  blocks ← blocks_at head.words notes (blocks_place + 4) None block_count
  let edges_place = blocks_place + 4 + 4 * block_count
  edge_count ← note_that (λ count. nat_lt count (2 ^ 24)) notes edges_place
  edges ← edges_at (counter_width head.version) block_count head.cells notes (edges_place + 4) [] edge_count
  let ranges_place = edges_place + 4 + 16 * edge_count
  range_count ← note_that (λ count. nat_lt count (2 ^ 26)) notes ranges_place
  ranges ← ranges_at block_count segments notes (ranges_place + 4) 0 range_count
  let notes_end = ranges_place + 4 + 16 * range_count
  kept (byte_count notes == notes_end) notes_end (record {
    version = head.version;
    delta = head.delta;
    length = head.length;
    tool = head.tool;
    start = head.start;
    words = head.words;
    entry = head.entry;
    base = head.base;
    cells = head.cells;
    segments = segments;
    blocks = blocks;
    edges = edges;
    ranges = ranges;
  })

-- The notes of this version in these bytes, in a file of this size.
unfoldable pub read_notes : ℕ → ℕ → List ℕ → Result Notes NoNotes
read_notes version size notes = do
  head ← head_of version size notes
  tables_of notes head

-- Where they stand: four words at 4032 say it.

-- "EELN", and the version
abbrev pub notes_version : List ℕ → ℕ
notes_version file = word_at file 4036

abbrev pub has_locator : List ℕ → Bool
has_locator file = nat_le 4096 (length file) && (word_at file 4032 == 0x45454c4e) && is_version (notes_version file)

abbrev pub notes_offset : List ℕ → ℕ
notes_offset file = word_at file 4040

abbrev pub notes_length : List ℕ → ℕ
notes_length file = word_at file 4044

-- the notes of a file
unfoldable pub notes_of : List ℕ → Result Notes NoNotes
notes_of file =
    if not (has_locator file) then Err Absent else
    (if nat_lt (length file) (notes_offset file + notes_length file) then Err (Bad 0) else
    read_notes (notes_version file) (length file) (take (notes_length file) (drop (notes_offset file) file)))

-- What they say of an address.

-- the place that holds it
abbrev pub range_at : Notes → ℕ → Option NoteRange
range_at notes address = find (λ range. nat_le range.lo address && nat_lt address range.hi) notes.ranges

-- The node of the place that holds it. An address outside all pages is at the node after the blocks, and
-- one in a page and in no place is at none.
abbrev pub node_at : Notes → ℕ → Option ℕ
node_at notes address =
    option_or (option_map (λ range. range.node) (range_at notes address))
    (if list_any (holds address (address + 1)) notes.segments then None else Some (length notes.blocks))

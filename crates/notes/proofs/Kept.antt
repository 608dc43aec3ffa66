-- What was read meets its rules.
use Rattle.notes.proofs.Common.{◌≡◌, ℕ, zero, suc, ◌+◌, ◌*◌, ◌%◌, ◌<◌, ◌≤◌, ◌^◌, Bool, true, false, not, ◌&&◌, ◌||◌, ◌==◌, List, [], ◌∷◌, Option, Some, None, Result, Ok, Err, refl, ap, sym, subst, ◌∙◌, length, arith, nat_le, nat_lt, list_any, and_parts, and_from, leb-true, ltb-true, eqb-true, cond_both, ne_eqb, NoteSegment, NoteEdge, NoteRange, Notes, NoNotes, ◌>>=◌, note_at, note_that, kept, follows, is_cell, is_counter, is_version, no_cell, cell_of, counter_width, last_tool, most_cells, segments_at, blocks_at, edges_at, ranges_at, read_notes, Head, block_count_at, head_of, tables_of, is_segment, are_segments, are_blocks, is_free, is_edge, with_cell, are_edges, is_range, are_ranges, AreNotes, segment_at, block_at, edge_at, range_at, cell_word, if◌then◌else◌}
use Rattle.notes.proofs.TableRows.{segments-next, blocks-next, edges-next, ranges-next}
use Rattle.notes.proofs.CellMarks.{counter_below, few_cells, has_width}
use Rattle.notes.proofs.Whole.{in_parts}

-- a reading that succeeds is a step that succeeds, and then the rest
pub record Then {A B E : Type 0} (m : Result A E) (f : A → Result B E) (y : B) : Type 0 where
  pub got : A
  pub is : m ≡ Ok got
  pub rest : f got ≡ Ok y

pub parted : {A B E : Type 0} (m : Result A E) (f : A → Result B E) (y : B) → (m >>= f) ≡ Ok y → Then m f y
parted (Ok x) f y h = record { got = x; is = refl; rest = h }
parted (Err e) f y h = absurd (cc h)

pub record Met {A : Type 0} (rule : Bool) (value x : A) : Type 0 where
  pub met : rule ≡ true
  pub same : value ≡ x

pub met : {A E : Type 0} (rule : Bool) (fault : E) (value x : A) → (if rule then Ok value else Err fault) ≡ Ok x
    → Met rule value x
met true fault value x h = record { met = refl; same = cc h }
met false fault value x h = absurd (cc h)

-- a word with a rule
pub that : (rule : ℕ → Bool) (notes : List ℕ) (at x : ℕ) → note_that rule notes at ≡ Ok x → rule x ≡ true
that rule notes at x h =
    let read = parted (note_at notes at) (λ word. kept (rule word) at word) x h in
    let found = met (rule read.got) _ read.got x read.rest in
    subst (λ (w : ℕ). rule w ≡ true) found.same found.met

abbrev ok : {A : Type 0} → A → Result A NoNotes
ok x = Ok x

ok_same : {A : Type 0} (x y : A) → ok x ≡ ok y → x ≡ y
ok_same x y h = cc h

segment_rule : (end : ℕ) (notes : List ℕ) (at : ℕ) (segment : NoteSegment) → segment_at end notes at ≡ Ok segment → is_segment end segment ≡ true
unfolding segment_at
segment_rule end notes at segment h =
    let start = parted (note_at notes at) _ segment h in
    let length = parted (note_at notes (at + 4)) _ segment start.rest in
    let found = met _ _ _ segment length.rest in
    subst (λ (s : NoteSegment). is_segment end s ≡ true) found.same found.met

pub record Rows {A : Type 0} (rule : Bool) (count : ℕ) (rows : List A) : Type 0 where
  pub rule_met : rule ≡ true
  pub count_is : length rows ≡ count

one_more : {A : Type 0} (row : A) (rows : List A) (count : ℕ) → length rows ≡ count → length (row ∷ rows) ≡ suc count
one_more row rows count h = omega arith

pub segments_kept : (notes : List ℕ) (at end count : ℕ) (rows : List NoteSegment) → segments_at notes at end count ≡ Ok rows → Rows (are_segments end rows) count rows
unfolding segments_at
segments_kept notes at end zero rows h = rw (← ok_same [] rows h) (record { rule_met = refl; count_is = refl })
segments_kept notes at end (suc count) rows h =
    let first = parted (segment_at end notes at) _ rows (sym (segments-next notes at end count) ∙ h) in
    let others = parted (segments_at notes (at + 8) (first.got.start + first.got.length) count) _ rows first.rest in
    let rest = segments_kept notes (at + 8) (first.got.start + first.got.length) count others.got others.is in
    rw (← ok_same (first.got ∷ others.got) rows others.rest)
    (record { rule_met = and_from (is_segment end first.got) (are_segments (first.got.start + first.got.length) others.got) (segment_rule end notes at first.got first.is) rest.rule_met; count_is = one_more first.got others.got count rest.count_is })

block_rule : (words : ℕ) (before : Option ℕ) (notes : List ℕ) (at first : ℕ) → block_at words before notes at ≡ Ok first → (follows before first && nat_lt first words) ≡ true
unfolding block_at
block_rule words before notes at first h = that (λ first. follows before first && nat_lt first words) notes at first h

pub blocks_kept : (words : ℕ) (notes : List ℕ) (at : ℕ) (before : Option ℕ) (count : ℕ) (rows : List ℕ) → blocks_at words notes at before count ≡ Ok rows → Rows (are_blocks words before rows) count rows
unfolding blocks_at
blocks_kept words notes at before zero rows h = rw (← ok_same [] rows h) (record { rule_met = refl; count_is = refl })
blocks_kept words notes at before (suc count) rows h =
    let first = parted (block_at words before notes at) _ rows (sym (blocks-next words notes at before count) ∙ h) in
    let others = parted (blocks_at words notes (at + 4) (Some first.got) count) _ rows first.rest in
    let rest = blocks_kept words notes (at + 4) (Some first.got) count others.got others.is in
    rw (← ok_same (first.got ∷ others.got) rows others.rest)
    (record { rule_met = and_from (follows before first.got && nat_lt first.got words) (are_blocks words (Some first.got) others.got) (block_rule words before notes at first.got first.is) rest.rule_met; count_is = one_more first.got others.got count rest.count_is })

range_rule : (blocks : ℕ) (segments : List NoteSegment) (end : ℕ) (notes : List ℕ) (at : ℕ) (range : NoteRange) → range_at blocks segments end notes at ≡ Ok range → is_range blocks segments end range ≡ true
unfolding range_at
range_rule blocks segments end notes at range h =
    let lo = parted (note_at notes at) _ range h in
    let hi = parted (note_at notes (at + 4)) _ range lo.rest in
    let address = parted (note_at notes (at + 8)) _ range hi.rest in
    let node = parted (note_at notes (at + 12)) _ range address.rest in
    let found = met _ _ _ range node.rest in
    subst (λ (r : NoteRange). is_range blocks segments end r ≡ true) found.same found.met

pub ranges_kept : (blocks : ℕ) (segments : List NoteSegment) (notes : List ℕ) (at end count : ℕ) (rows : List NoteRange) → ranges_at blocks segments notes at end count ≡ Ok rows → Rows (are_ranges blocks segments end rows) count rows
unfolding ranges_at
ranges_kept blocks segments notes at end zero rows h = rw (← ok_same [] rows h) (record { rule_met = refl; count_is = refl })
ranges_kept blocks segments notes at end (suc count) rows h =
    let first = parted (range_at blocks segments end notes at) _ rows (sym (ranges-next blocks segments notes at end count) ∙ h) in
    let others = parted (ranges_at blocks segments notes (at + 16) first.got.hi count) _ rows first.rest in
    let rest = ranges_kept blocks segments notes (at + 16) first.got.hi count others.got others.is in
    rw (← ok_same (first.got ∷ others.got) rows others.rest)
    (record { rule_met = and_from (is_range blocks segments end first.got) (are_ranges blocks segments first.got.hi others.got) (range_rule blocks segments end notes at first.got first.is) rest.rule_met; count_is = one_more first.got others.got count rest.count_is })

-- two lists in which the same cells stand
abbrev pub Alike : ℕ → List ℕ → List ℕ → Type 0
Alike cells words taken = (cell : ℕ) → cell < cells → list_any (λ other. other == cell) words ≡ list_any (λ other. other == cell) taken

pub alike_more : (cells : ℕ) → cells ≤ 2 ^ 23 → (words taken : List ℕ) (cell : Option ℕ) → Alike cells words taken → Alike cells (cell_word cell ∷ words) (with_cell cell taken)
alike_more cells few words taken None alike = λ cell below. rw (ne_eqb no_cell cell (λ is. absurd (omega arith))) (alike cell below)
alike_more cells few words taken (Some own) alike = λ cell below. ap (λ rest. (own == cell) || rest) (alike cell below)

-- a counter whose cell isn't taken is free
open_one : (width cells : ℕ) → 0 < width → (words taken : List ℕ) (word : ℕ) → Alike cells words taken
    → (is_counter width cells word && not (list_any (λ cell. cell == word) words)) ≡ true → is_free width cells taken (Some word) ≡ true
open_one width cells wide words taken word alike h =
    let parts = and_parts (is_counter width cells word) (not (list_any (λ cell. cell == word) words)) h in
    let same = alike word (counter_below width cells word wide parts.0) in
    and_from (is_counter width cells word) (not (list_any (λ other. other == word) taken)) parts.0 (sym (ap not same) ∙ parts.1)

free_cell : (width cells : ℕ) → 0 < width → (words taken : List ℕ) (word : ℕ) → Alike cells words taken
    → is_cell width cells words word ≡ true → is_free width cells taken (cell_of word) ≡ true
free_cell width cells wide words taken word alike h =
    cond_both (word == no_cell) None (Some word) (λ cell. is_free width cells taken cell ≡ true) (λ _. refl)
    (λ differs. open_one width cells wide words taken word alike
    (sym (ap (λ (b : Bool). b || (is_counter width cells word && not (list_any (λ cell. cell == word) words))) differs) ∙ h))

edge_rule : (width blocks cells : ℕ) → 0 < width → (words taken : List ℕ) (notes : List ℕ) (at : ℕ) (edge : NoteEdge)
    → Alike cells words taken → edge_at blocks (is_cell width cells words) notes at ≡ Ok edge
    → is_edge width blocks cells taken edge ≡ true
unfolding edge_at
edge_rule width blocks cells wide words taken notes at edge alike h =
    let kind = parted (note_at notes at) _ edge h in
    let from = parted (note_at notes (at + 4)) _ edge kind.rest in
    let to = parted (note_at notes (at + 8)) _ edge from.rest in
    let cell = parted (note_at notes (at + 12)) _ edge to.rest in
    let found = met _ _ _ edge cell.rest in
    let between = nat_le kind.got 6 && nat_le from.got (2 * blocks) && nat_le to.got (2 * blocks) in
    let parts = and_parts between (is_cell width cells words cell.got) found.met in
    subst (λ (e : NoteEdge). is_edge width blocks cells taken e ≡ true) found.same
    (and_from between (is_free width cells taken (cell_of cell.got)) parts.0
    (free_cell width cells wide words taken cell.got alike parts.1))

pub edges_kept : (width blocks cells : ℕ) → 0 < width → cells ≤ 2 ^ 23 → (notes : List ℕ) (at : ℕ) (words taken : List ℕ)
    → Alike cells words taken → (count : ℕ) (rows : List NoteEdge)
    → edges_at width blocks cells notes at words count ≡ Ok rows → Rows (are_edges width blocks cells taken rows) count rows
unfolding edges_at
edges_kept width blocks cells wide few notes at words taken alike zero rows h =
    rw (← ok_same [] rows h) (record { rule_met = refl; count_is = refl })
edges_kept width blocks cells wide few notes at words taken alike (suc count) rows h =
    let first = parted (edge_at blocks (is_cell width cells words) notes at) _ rows
    (sym (edges-next width blocks cells notes at words count) ∙ h) in
    let cell = first.got.cell in
    let others = parted (edges_at width blocks cells notes (at + 16) (cell_word cell ∷ words) count) _ rows first.rest in
    let rest = edges_kept width blocks cells wide few notes (at + 16) (cell_word cell ∷ words) (with_cell cell taken)
    (alike_more cells few words taken cell alike) count others.got others.is in
    let rule = edge_rule width blocks cells wide words taken notes at first.got alike first.is in
    rw (← ok_same (first.got ∷ others.got) rows others.rest)
    (record { rule_met = and_from (is_edge width blocks cells taken first.got) (are_edges width blocks cells (with_cell cell taken) others.got) rule rest.rule_met; count_is = one_more first.got others.got count rest.count_is })

-- the numbers before the tables
pub record HeadKept (version : ℕ) (head : Head) : Type 0 where
  pub version_is : head.version ≡ version
  pub delta : 4096 ≤ head.delta
  pub tool : head.tool ≤ last_tool version
  pub start : (head.start % 4 ≡ 0) × (0x1000 ≤ head.start)
  pub words : (1 ≤ head.words) × (head.words ≤ 2 ^ 20) × (head.start + 4 * head.words ≤ 0x80000000)
  pub base : (head.base % 4 ≡ 0) × (head.base + 4 * head.cells ≤ 2 ^ 32)
  pub cells : head.cells ≤ most_cells version
  pub segments : head.segment_count ≤ 8

abbrev head_with : (version delta length tool start words entry base cells segment_count : ℕ) → Head
head_with version delta length tool start words entry base cells segment_count = record {
  version = version;
  delta = delta;
  length = length;
  tool = tool;
  start = start;
  words = words;
  entry = entry;
  base = base;
  cells = cells;
  segment_count = segment_count;
}

head_is : (version delta length tool start words entry base_read base cells_read cells segment_count : ℕ) (head : Head) → nat_le 4096 delta ≡ true → nat_le tool (last_tool version) ≡ true → ((start % 4 == 0) && nat_le 0x1000 start) ≡ true
    → (nat_le 1 words && nat_le words (2 ^ 20) && nat_le (start + 4 * words) 0x80000000) ≡ true → Met ((base_read % 4 == 0) && nat_le (base_read + 4 * cells_read) (2 ^ 32)) base_read base → Met (nat_le cells_read (most_cells version)) cells_read cells → nat_le segment_count 8 ≡ true
    → head_with version delta length tool start words entry base cells segment_count ≡ head → HeadKept version head
head_is version delta length tool start words entry base_read base cells_read cells segment_count head is_delta is_tool is_start is_words base_met cells_met is_segments h =
    let starts = and_parts (start % 4 == 0) (nat_le 0x1000 start) is_start in
    let texts = and_parts (nat_le 1 words && nat_le words (2 ^ 20)) (nat_le (start + 4 * words) 0x80000000) is_words in
    let counts = and_parts (nat_le 1 words) (nat_le words (2 ^ 20)) texts.0 in
    let bases = and_parts (base_read % 4 == 0) (nat_le (base_read + 4 * cells_read) (2 ^ 32)) base_met.met in
    rw (← h, ← base_met.same, ← cells_met.same) (record {
      version_is = refl;
      delta = leb-true 4096 delta is_delta;
      tool = leb-true tool (last_tool version) is_tool;
      start = (eqb-true (start % 4) 0 starts.0, leb-true 0x1000 start starts.1);
      words = (leb-true 1 words counts.0, leb-true words (2 ^ 20) counts.1, leb-true (start + 4 * words) 0x80000000 texts.1);
      base = (eqb-true (base_read % 4) 0 bases.0, leb-true (base_read + 4 * cells_read) (2 ^ 32) bases.1);
      cells = leb-true cells_read (most_cells version) cells_met.met;
      segments = leb-true segment_count 8 is_segments;
    })

-- what holds of each success of a step and then the rest
step : {A B : Type 0} (P : B → Type 0) (m : Result A NoNotes) (f : A → Result B NoNotes) → ((x : A) → m ≡ Ok x → (y : B) → f x ≡ Ok y → P y) → (y : B) → (m >>= f) ≡ Ok y → P y
step P (Ok x) f next y h = next x refl y h
step P (Err e) f next y h = absurd (cc h)

head_kept : (version size : ℕ) (notes : List ℕ) (head : Head) → head_of version size notes ≡ Ok head → HeadKept version head
unfolding head_of
head_kept version size notes =
    step (HeadKept version) (note_that (λ delta. nat_le 4096 delta) notes 0) _ (λ delta is_delta.
    step (HeadKept version) (note_that (λ length. nat_le (delta + length) size) notes 4) _ (λ length is_length.
    step (HeadKept version) (note_that (λ tool. nat_le tool (last_tool version)) notes 8) _ (λ tool is_tool.
    step (HeadKept version) (note_that (λ start. (start % 4 == 0) && nat_le 0x1000 start) notes 12) _ (λ start is_start.
    step (HeadKept version) (note_that (λ words. nat_le 1 words && nat_le words (2 ^ 20) && nat_le (start + 4 * words) 0x80000000) notes 16) _ (λ words is_words.
    step (HeadKept version) (note_at notes 20) _ (λ entry is_entry.
    step (HeadKept version) (note_at notes 24) _ (λ base_read is_base_read.
    step (HeadKept version) (note_at notes 28) _ (λ cells_read is_cells_read.
    step (HeadKept version) (kept ((base_read % 4 == 0) && nat_le (base_read + 4 * cells_read) (2 ^ 32)) 24 base_read) _ (λ base is_base.
    step (HeadKept version) (kept (nat_le cells_read (most_cells version)) 28 cells_read) _ (λ cells is_cells.
    step (HeadKept version) (note_that (λ count. nat_le count 8) notes 32) _ (λ segments is_segments. λ head h.
    head_is version delta length tool start words entry base_read base cells_read cells segments head
    (that (λ delta. nat_le 4096 delta) notes 0 delta is_delta) (that (λ tool. nat_le tool (last_tool version)) notes 8 tool is_tool)
    (that (λ start. (start % 4 == 0) && nat_le 0x1000 start) notes 12 start is_start)
    (that (λ words. nat_le 1 words && nat_le words (2 ^ 20) && nat_le (start + 4 * words) 0x80000000) notes 16 words is_words)
    (met ((base_read % 4 == 0) && nat_le (base_read + 4 * cells_read) (2 ^ 32)) _ base_read base is_base)
    (met (nat_le cells_read (most_cells version)) _ cells_read cells is_cells)
    (that (λ count. nat_le count 8) notes 32 segments is_segments) (ok_same _ head h))))))))))))

count_kept : (entry words : ℕ) (notes : List ℕ) (at count : ℕ) → block_count_at entry words notes at ≡ Ok count → (entry < count) × (count ≤ words)
unfolding block_count_at
count_kept entry words notes at count h =
    let read = parted (note_at notes at) _ count h in
    let below = parted (kept (nat_lt entry read.got) 20 entry) _ count read.rest in
    let below_met = met _ _ entry below.got below.is in
    let found = met _ _ read.got count below.rest in
    let parts = and_parts (nat_le 1 read.got) (nat_le read.got words) found.met in
    subst (λ (n : ℕ). (entry < n) × (n ≤ words)) found.same (ltb-true entry read.got below_met.met, leb-true read.got words parts.1)

notes_from : (version : ℕ) → is_version version ≡ true → (head : Head) → HeadKept version head → (segments : List NoteSegment) (blocks : List ℕ) (edges : List NoteEdge) (ranges : List NoteRange) (block_count edge_count range_count : ℕ) → Rows (are_segments 0 segments) head.segment_count segments
    → (head.entry < block_count) × (block_count ≤ head.words) → Rows (are_blocks head.words None blocks) block_count blocks → nat_lt edge_count (2 ^ 24) ≡ true → Rows (are_edges (counter_width head.version) block_count head.cells [] edges) edge_count edges
    → nat_lt range_count (2 ^ 26) ≡ true → Rows (are_ranges block_count segments 0 ranges) range_count ranges
    → AreNotes (record {
      version = head.version;
      delta = head.delta;
      length = head.length;
      tool = head.tool;
      start = head.start;
      words = head.words;
      entry = head.entry;
      base = head.base;
      cells = head.cells;
      segments = segments;
      blocks = blocks;
      edges = edges;
      ranges = ranges;
    })
notes_from version known head is segments blocks edges ranges block_count edge_count range_count segments_are counts blocks_are few_edges edges_are few_ranges ranges_are =
    let segment_few = is.segments in
    let segment_count = segments_are.count_is in
    let block_total = blocks_are.count_is in
    let edge_total = edges_are.count_is in
    let range_total = ranges_are.count_is in
    let entered = counts.0 in
    let held = counts.1 in
    let few = ltb-true edge_count (2 ^ 24) few_edges in
    let fewer = ltb-true range_count (2 ^ 26) few_ranges in
    record {
      version = rw is.version_is known;
      delta = is.delta;
      tool = rw is.version_is is.tool;
      start = is.start;
      words = is.words;
      entry = omega arith;
      base = is.base;
      cells = rw is.version_is is.cells;
      segment_count = omega arith;
      segments = segments_are.rule_met;
      block_count = omega arith;
      blocks = blocks_are.rule_met;
      edge_count = omega arith;
      edges = rw block_total edges_are.rule_met;
      range_count = omega arith;
      ranges = rw block_total ranges_are.rule_met;
    }

tables_kept : (version : ℕ) → is_version version ≡ true → (notes : List ℕ) (head : Head) (read : Notes) → HeadKept version head → tables_of notes head ≡ Ok read → AreNotes read
unfolding tables_of
tables_kept version known notes head read is h =
    let segments = parted (segments_at notes 36 0 head.segment_count) _ read h in
    let blocks_place = 36 + 8 * head.segment_count in
    let block_count = parted (block_count_at head.entry head.words notes blocks_place) _ read segments.rest in
    let blocks = parted (blocks_at head.words notes (blocks_place + 4) None block_count.got) _ read block_count.rest in
    let edges_place = blocks_place + 4 + 4 * block_count.got in
    let edge_count = parted (note_that (λ count. nat_lt count (2 ^ 24)) notes edges_place) _ read blocks.rest in
    let edges = parted (edges_at (counter_width head.version) block_count.got head.cells notes (edges_place + 4) [] edge_count.got) _ read edge_count.rest in
    let ranges_place = edges_place + 4 + 16 * edge_count.got in
    let range_count = parted (note_that (λ count. nat_lt count (2 ^ 26)) notes ranges_place) _ read edges.rest in
    let ranges = parted (ranges_at block_count.got segments.got notes (ranges_place + 4) 0 range_count.got) _ read range_count.rest in
    let found = met _ _ _ read ranges.rest in
    subst AreNotes found.same
    (notes_from version known head is segments.got blocks.got edges.got ranges.got block_count.got edge_count.got range_count.got
    (segments_kept notes 36 0 head.segment_count segments.got segments.is)
    (count_kept head.entry head.words notes blocks_place block_count.got block_count.is)
    (blocks_kept head.words notes (blocks_place + 4) None block_count.got blocks.got blocks.is)
    (that _ notes edges_place edge_count.got edge_count.is)
    (edges_kept (counter_width head.version) block_count.got head.cells (has_width head.version) (few_cells version head.cells is.cells) notes (edges_place + 4) [] [] (λ cell below. refl) edge_count.got edges.got edges.is)
    (that _ notes ranges_place range_count.got range_count.is)
    (ranges_kept block_count.got segments.got notes (ranges_place + 4) 0 range_count.got ranges.got ranges.is))

pub read_kept : (version size : ℕ) (bytes : List ℕ) (notes : Notes) → is_version version ≡ true
    → read_notes version size bytes ≡ Ok notes → AreNotes notes
read_kept version size bytes notes known h =
    let head = parted (head_of version size bytes) (tables_of bytes) notes (sym (in_parts version size bytes) ∙ h) in
    tables_kept version known bytes head.got notes (head_kept version size bytes head.got head.is) head.rest

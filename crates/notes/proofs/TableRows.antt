-- A table is its first row, and then the others.
use Rattle.notes.proofs.Common.{◌≡◌, ℕ, suc, ◌+◌, ◌*◌, ◌-◌, ◌<◌, ◌≤◌, ◌^◌, Bool, false, List, [], ◌∷◌, ◌++◌, Option, Some, Result, Ok, refl, ap, sym, subst, ◌∙◌, length, replicate, arith, add-zero, length-replicate, is_cell, NoteSegment, NoteEdge, NoteRange, NoNotes, ◌>>=◌, segments_at, blocks_at, edges_at, ranges_at, is_open, with_mark, segment_at, block_at, edge_at, range_at, IsFault, NotesFault, cell_word}
use Rattle.notes.proofs.Steps.{bind_assoc, kept_then, after, after_none, after_next, through}
use Rattle.notes.proofs.CellMarks.{cell_word-of, open_cell, none_marked, marks_long, marked_more, AreMarks}

next-place : (at size row : ℕ) → at + size * row + size ≡ at + size * (row + 1)
next-place at size row = omega arith

one-more : (count row : ℕ) → row < count → count - row ≡ suc (count - (row + 1))
one-more count row below = omega arith

pub segments-next : (notes : List ℕ) (at end count : ℕ)
    → segments_at notes at end (suc count) ≡ (segment_at end notes at >>= (λ segment. segments_at notes (at + 8) (segment.start + segment.length) count >>= (λ others. Ok (segment ∷ others))))
unfolding segments_at segment_at
segments-next notes at end count = simp (bind_assoc, kept_then)

pub blocks-next : (words : ℕ) (notes : List ℕ) (at : ℕ) (before : Option ℕ) (count : ℕ)
    → blocks_at words notes at before (suc count) ≡ (block_at words before notes at >>= (λ first. blocks_at words notes (at + 4) (Some first) count >>= (λ others. Ok (first ∷ others))))
unfolding blocks_at block_at
blocks-next words notes at before count = simp (bind_assoc, kept_then)

pub segments-row : (rows : List NoteSegment) (notes : List ℕ) (at end count row : ℕ) → row < count
    → after rows (segments_at notes (at + 8 * row) end (count - row)) ≡ (segment_at end notes (at + 8 * row) >>= (λ segment. after (rows ++ segment ∷ []) (segments_at notes (at + 8 * (row + 1)) (segment.start + segment.length) (count - (row + 1)))))
segments-row rows notes at end count row below =
    rw (one-more count row below, segments-next notes (at + 8 * row) end (count - (row + 1)), next-place at 8 row) (after_next rows (segment_at end notes (at + 8 * row)) (λ segment. segments_at notes (at + 8 * (row + 1)) (segment.start + segment.length) (count - (row + 1))))

-- a row that can be read, and one that can't
pub row_read : {A B : Type 0} (row : Result A NoNotes) (f : A → Result B NoNotes) (whole : Result B NoNotes) (x : A) → row ≡ Ok x → whole ≡ (row >>= f) → whole ≡ f x
row_read row f whole x is so_far = rw is at so_far

pub row_fault : {A B : Type 0} (fault : NotesFault) (row : Result A NoNotes) (f : A → Result B NoNotes) (whole : Result B NoNotes) → IsFault fault row → whole ≡ (row >>= f) → IsFault fault whole
row_fault fault row f whole is so_far = rw so_far (through fault row f is)

pub blocks-row : (rows : List ℕ) (words : ℕ) (notes : List ℕ) (at : ℕ) (before : Option ℕ) (count row : ℕ) → row < count
    → after rows (blocks_at words notes (at + 4 * row) before (count - row)) ≡ (block_at words before notes (at + 4 * row) >>= (λ first. after (rows ++ first ∷ []) (blocks_at words notes (at + 4 * (row + 1)) (Some first) (count - (row + 1)))))
blocks-row rows words notes at before count row below =
    rw (one-more count row below, blocks-next words notes (at + 4 * row) before (count - (row + 1)), next-place at 4 row) (after_next rows (block_at words before notes (at + 4 * row)) (λ first. blocks_at words notes (at + 4 * (row + 1)) (Some first) (count - (row + 1))))

pub ranges-next : (blocks : ℕ) (segments : List NoteSegment) (notes : List ℕ) (at end count : ℕ)
    → ranges_at blocks segments notes at end (suc count) ≡ (range_at blocks segments end notes at >>= (λ range. ranges_at blocks segments notes (at + 16) range.hi count >>= (λ others. Ok (range ∷ others))))
unfolding ranges_at range_at
ranges-next blocks segments notes at end count = simp (bind_assoc, kept_then)

pub ranges-row : (rows : List NoteRange) (blocks : ℕ) (segments : List NoteSegment) (notes : List ℕ) (at end count row : ℕ) → row < count
    → after rows (ranges_at blocks segments notes (at + 16 * row) end (count - row)) ≡ (range_at blocks segments end notes (at + 16 * row) >>= (λ range. after (rows ++ range ∷ []) (ranges_at blocks segments notes (at + 16 * (row + 1)) range.hi (count - (row + 1)))))
ranges-row rows blocks segments notes at end count row below =
    rw (one-more count row below, ranges-next blocks segments notes (at + 16 * row) end (count - (row + 1)), next-place at 16 row) (after_next rows (range_at blocks segments end notes (at + 16 * row)) (λ range. ranges_at blocks segments notes (at + 16 * (row + 1)) range.hi (count - (row + 1))))

pub edges-next : (width blocks cells : ℕ) (notes : List ℕ) (at : ℕ) (taken : List ℕ) (count : ℕ)
    → edges_at width blocks cells notes at taken (suc count) ≡ (edge_at blocks (is_cell width cells taken) notes at >>= (λ edge. edges_at width blocks cells notes (at + 16) (cell_word edge.cell ∷ taken) count >>= (λ others. Ok (edge ∷ others))))
unfolding edges_at edge_at
edges-next width blocks cells notes at taken count = simp (bind_assoc, kept_then, cell_word-of)

pub edges-row : (rows : List NoteEdge) (width blocks cells : ℕ) (notes : List ℕ) (at : ℕ) (taken : List ℕ) (count row : ℕ) → row < count
    → after rows (edges_at width blocks cells notes (at + 16 * row) taken (count - row)) ≡ (edge_at blocks (is_cell width cells taken) notes (at + 16 * row) >>= (λ edge. after (rows ++ edge ∷ []) (edges_at width blocks cells notes (at + 16 * (row + 1)) (cell_word edge.cell ∷ taken) (count - (row + 1)))))
edges-row rows width blocks cells notes at taken count row below =
    rw (one-more count row below, edges-next width blocks cells notes (at + 16 * row) taken (count - (row + 1)), next-place at 16 row) (after_next rows (edge_at blocks (is_cell width cells taken) notes (at + 16 * row)) (λ edge. edges_at width blocks cells notes (at + 16 * (row + 1)) (cell_word edge.cell ∷ taken) (count - (row + 1))))

-- What was read of the edges, with the marks of their cells, and what is left.
pub record EdgesRead (width blocks cells : ℕ) (notes : List ℕ) (at count row : ℕ) (rows : List NoteEdge) (marks : List Bool) (whole : Result (List NoteEdge) NoNotes) : Type 0 where
  pub taken : List ℕ
  pub size : length marks ≡ cells
  pub marked : AreMarks marks taken
  pub so_far : whole ≡ after rows (edges_at width blocks cells notes (at + 16 * row) taken (count - row))

pub edges-none-read : (width blocks cells : ℕ) (notes : List ℕ) (at count : ℕ) → EdgesRead width blocks cells notes at count 0 [] (replicate cells false) (edges_at width blocks cells notes at [] count)
edges-none-read width blocks cells notes at count =
    let rows : count - 0 ≡ count = omega arith in
    record {
      taken = [];
      size = length-replicate cells false;
      marked = none_marked cells;
      so_far = sym (rw (add-zero, rows) (after_none (edges_at width blocks cells notes at [] count)));
    }

-- an edge by its marks, and by the cells that they mark
edge-same : (width blocks cells : ℕ) (notes : List ℕ) (at : ℕ) (marks : List Bool) (taken : List ℕ) → 0 < width → length marks ≡ cells → AreMarks marks taken → edge_at blocks (is_open width marks) notes at ≡ edge_at blocks (is_cell width cells taken) notes at
edge-same width blocks cells notes at marks taken wide size marked = ap (λ (test : ℕ → Bool). edge_at blocks test notes at) (λ i word. open_cell width cells marks taken wide size marked word i)

pub edges-more : (width blocks cells : ℕ) (notes : List ℕ) (at count row : ℕ) (rows : List NoteEdge) (marks : List Bool) (whole : Result (List NoteEdge) NoNotes) (edge : NoteEdge) → 0 < width → cells ≤ 2 ^ 23 → row < count → edge_at blocks (is_open width marks) notes (at + 16 * row) ≡ Ok edge
    → EdgesRead width blocks cells notes at count row rows marks whole → EdgesRead width blocks cells notes at count (row + 1) (rows ++ edge ∷ []) (with_mark edge.cell marks) whole
edges-more width blocks cells notes at count row rows marks whole edge wide few below is read = record {
  taken = cell_word edge.cell ∷ read.taken;
  size = marks_long edge.cell marks ∙ read.size;
  marked = marked_more edge.cell marks read.taken (subst (λ (n : ℕ). n ≤ 2 ^ 23) (sym read.size) few) read.marked;
  so_far = read.so_far ∙ edges-row rows width blocks cells notes at read.taken count row below ∙ rw (sym (edge-same width blocks cells notes (at + 16 * row) marks read.taken wide read.size read.marked) ∙ is) refl;
}

pub edges-fault : (fault : NotesFault) (width blocks cells : ℕ) (notes : List ℕ) (at count row : ℕ) (rows : List NoteEdge) (marks : List Bool) (whole : Result (List NoteEdge) NoNotes) → 0 < width → row < count → IsFault fault (edge_at blocks (is_open width marks) notes (at + 16 * row))
    → EdgesRead width blocks cells notes at count row rows marks whole → IsFault fault whole
edges-fault fault width blocks cells notes at count row rows marks whole wide below is read =
    let judged = subst (IsFault fault) (edge-same width blocks cells notes (at + 16 * row) marks read.taken wide read.size read.marked) is in
    row_fault fault _ _ whole judged (read.so_far ∙ edges-row rows width blocks cells notes at read.taken count row below)

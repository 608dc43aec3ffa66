-- Words as bytes, and back.
use Rattle.notes.proofs.Common.{◌≡◌, ℕ, ◌+◌, ◌*◌, List, [], ◌∷◌, ◌++◌, map, length, length-append, refl, ap, sym, ◌∙◌, append_assoc, arith, flat_map, flat_map-append, big_bytes, segment_seen, edge_seen, range_seen, notes_seen, words_bytes, segment_words, edge_words, range_words, notes_bytes, segment_bytes, edge_bytes, range_bytes}
use Rattle.eel_base.specs.declared.range.Range as declared_range
use Rattle.notes.specs.declared.note.NoteSegment as declared_segment
use Rattle.notes.specs.declared.note.NoteEdge as declared_edge
use Rattle.notes.specs.declared.note.Notes as declared_notes
pub use Rattle.notes.proofs.EditedThreeWords.{reads}
pub use Rattle.notes.proofs.Examples.{written}

pub words_bytes-append : (xs ys : List ℕ) → words_bytes (xs ++ ys) ≡ words_bytes xs ++ words_bytes ys
unfolding words_bytes
words_bytes-append xs ys = flat_map-append (big_bytes 4) xs ys

pub words_bytes-cons : (w : ℕ) (ws : List ℕ) → words_bytes (w ∷ ws) ≡ big_bytes 4 w ++ words_bytes ws
unfolding words_bytes
words_bytes-cons w ws = refl

-- each item makes n
pub length-flat_map : {X A : Type 0} (f : X → List A) (n : ℕ) → ((x : X) → length (f x) ≡ n) → (xs : List X) → length (flat_map f xs) ≡ n * length xs
length-flat_map f n each [] = omega arith
length-flat_map f n each (x ∷ xs) = simp (length-append, each x, length-flat_map f n each xs) (omega arith)

-- the bytes of rows are those of the rows' words
rows-bytes : {X Y : Type 0} (seen : X → Y) (words : Y → List ℕ) (bytes : X → List ℕ) → ((x : X) → bytes x ≡ words_bytes (words (seen x))) → (rows : List X) → flat_map bytes rows ≡ words_bytes (flat_map words (map seen rows))
unfolding words_bytes
rows-bytes seen words bytes each [] = refl
rows-bytes seen words bytes each (row ∷ rows) =
    ap (λ (here : List ℕ). here ++ flat_map bytes rows) (each row)
    ∙ ap (λ (rest : List ℕ). words_bytes (words (seen row)) ++ rest) (rows-bytes seen words bytes each rows)
    ∙ sym (words_bytes-append (words (seen row)) (flat_map words (map seen rows)))

pub segments-bytes : (rows : List declared_segment.NoteSegment) → flat_map segment_bytes rows ≡ words_bytes (flat_map segment_words (map segment_seen rows))
unfolding segment_bytes
segments-bytes rows = rows-bytes segment_seen segment_words segment_bytes (λ row. refl) rows

pub edges-bytes : (rows : List declared_edge.NoteEdge) → flat_map edge_bytes rows ≡ words_bytes (flat_map edge_words (map edge_seen rows))
unfolding edge_bytes
edges-bytes rows = rows-bytes edge_seen edge_words edge_bytes (λ row. refl) rows

pub ranges-bytes : (rows : List declared_range.Range) → flat_map range_bytes rows ≡ words_bytes (flat_map range_words (map range_seen rows))
unfolding range_bytes
ranges-bytes rows = rows-bytes range_seen range_words range_bytes (λ row. refl) rows

-- a count and its table
counted : (before : List ℕ) (count : ℕ) (words : List ℕ) → (words_bytes before ++ words_bytes (count ∷ [])) ++ words_bytes words ≡ words_bytes (before ++ (count ∷ words))
counted before count words =
    rw (append_assoc, words_bytes-append before (count ∷ words), ← words_bytes-append (count ∷ []) words)

-- the parts that were written are all
pub whole : (head : List ℕ) (segments blocks edges ranges : ℕ) (s b e r : List ℕ)
    → (((((((words_bytes head ++ words_bytes (segments ∷ [])) ++ words_bytes s) ++ words_bytes (blocks ∷ [])) ++ words_bytes b) ++ words_bytes (edges ∷ [])) ++ words_bytes e) ++ words_bytes (ranges ∷ [])) ++ words_bytes r
    ≡ words_bytes (head ++ (segments ∷ s) ++ (blocks ∷ b) ++ (edges ∷ e) ++ (ranges ∷ r))
whole head segments blocks edges ranges s b e r =
    rw (counted head segments s, counted (head ++ (segments ∷ s)) blocks b, counted (head ++ (segments ∷ s) ++ (blocks ∷ b)) edges e, counted (head ++ (segments ∷ s) ++ (blocks ∷ b) ++ (edges ∷ e)) ranges r) refl

-- what is written in turn
pub record Turns (n : declared_notes.Notes) (out : List ℕ) : Type 0 where
  pub segments : ℕ
  pub blocks : ℕ
  pub edges : ℕ
  pub ranges : ℕ
  pub segments_are : segments ≡ length (map segment_seen n.segments.items)
  pub blocks_are : blocks ≡ length n.blocks.items
  pub edges_are : edges ≡ length (map edge_seen n.edges.items)
  pub ranges_are : ranges ≡ length (map range_seen n.ranges.items)
  pub all : out ≡ (((((((words_bytes (n.delta ∷ n.length ∷ n.tool ∷ n.start ∷ n.words ∷ n.entry ∷ n.base ∷ n.cells ∷ []) ++ words_bytes (segments ∷ [])) ++ flat_map segment_bytes n.segments.items) ++ words_bytes (blocks ∷ [])) ++ words_bytes n.blocks.items) ++ words_bytes (edges ∷ [])) ++ flat_map edge_bytes n.edges.items) ++ words_bytes (ranges ∷ [])) ++ flat_map range_bytes n.ranges.items

pub turns : (n : declared_notes.Notes) (out : List ℕ) → Turns n out → out ≡ notes_bytes (notes_seen n)
unfolding notes_bytes
turns n out is =
    is.all ∙ rw (segments-bytes n.segments.items, edges-bytes n.edges.items, ranges-bytes n.ranges.items, is.segments_are, is.blocks_are, is.edges_are, is.ranges_are)
    (whole (n.delta ∷ n.length ∷ n.tool ∷ n.start ∷ n.words ∷ n.entry ∷ n.base ∷ n.cells ∷ []) (length (map segment_seen n.segments.items)) (length n.blocks.items) (length (map edge_seen n.edges.items)) (length (map range_seen n.ranges.items)) (flat_map segment_words (map segment_seen n.segments.items)) n.blocks.items (flat_map edge_words (map edge_seen n.edges.items)) (flat_map range_words (map range_seen n.ranges.items)))

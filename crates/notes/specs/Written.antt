-- Notes as bytes: big-endian words, one after the other.
use Rattle.std.specs.Prelude.{ℕ, List, [], ◌∷◌, ◌++◌, length, Option, unwrap_or}
use Rattle.std.specs.List.{flat_map}
use Rattle.byteorder.specs.Endian.{big_bytes}
use Rattle.notes.specs.Format.{NoteSegment, NoteEdge, NoteRange, Notes, no_cell}

unfoldable pub words_bytes : List ℕ → List ℕ
words_bytes words = flat_map (big_bytes 4) words

abbrev pub segment_words : NoteSegment → List ℕ
segment_words segment = segment.start ∷ segment.length ∷ []

-- an edge's cell as a word
abbrev pub cell_word : Option ℕ → ℕ
cell_word cell = unwrap_or cell no_cell

abbrev pub edge_words : NoteEdge → List ℕ
edge_words edge = edge.kind ∷ edge.from ∷ edge.to ∷ cell_word edge.cell ∷ []

abbrev pub range_words : NoteRange → List ℕ
range_words range = range.lo ∷ range.hi ∷ range.address ∷ range.node ∷ []

abbrev pub notes_words : Notes → List ℕ
notes_words notes =
    (notes.delta ∷ notes.length ∷ notes.tool ∷ notes.start ∷ notes.words ∷ notes.entry ∷ notes.base ∷ notes.cells ∷ [])
    ++ (length notes.segments ∷ flat_map segment_words notes.segments)
    ++ (length notes.blocks ∷ notes.blocks)
    ++ (length notes.edges ∷ flat_map edge_words notes.edges)
    ++ (length notes.ranges ∷ flat_map range_words notes.ranges)

unfoldable pub notes_bytes : Notes → List ℕ
notes_bytes notes = words_bytes (notes_words notes)

-- The lines that show the last edges.
use Rattle.std.specs.Prelude.{ℕ, ◌-◌, List, [], ◌∷◌, ◌++◌, length, codes, decimal}
use Rattle.std.specs.List.{flat_map}
use Rattle.notes.specs.Format.{NoteEdge, Notes}
use Rattle.count_rebuild.specs.Noted.{edge_at}
use Rattle.show_text.specs.CountLines.{kind_of, noted_node_text}
use Rattle.show_text.specs.Lines.{kind_text, line}

-- an edge's number, kind and ends
abbrev pub noted_edge_line : Notes → ℕ → NoteEdge → List ℕ
noted_edge_line notes number edge =
    line (codes "edge" ∷ decimal number ∷ kind_text (kind_of edge.kind) ∷ noted_node_text notes edge.from
    ∷ noted_node_text notes edge.to ∷ [])

abbrev pub edge_line : Notes → ℕ → List ℕ
edge_line notes number = noted_edge_line notes number (edge_at notes number)

-- how many edges are shown, and how many the ring has room for
abbrev pub ring_line : Notes → List ℕ → List ℕ
ring_line notes edges =
    line (codes "edges" ∷ decimal (length edges) ∷ codes "ring" ∷ decimal (notes.cells - 1) ∷ [])

unfoldable pub ring_lines : Notes → List ℕ → List ℕ
ring_lines notes edges = flat_map (edge_line notes) edges ++ ring_line notes edges

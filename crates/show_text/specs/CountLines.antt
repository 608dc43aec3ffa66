-- The lines that show how often the edges of a profile were completed.
use Rattle.std.specs.Prelude.{ℕ, ◌+◌, ◌-◌, ◌*◌, Bool, ◌==◌, nat_lt, if◌then◌else◌, List, [], ◌∷◌, ◌++◌, length, slice_index, slice_index_or, codes, decimal}
use Rattle.std.specs.List.{count_by, enumerate_from, flat_map, sum}
use Rattle.std.specs.Option.{is_some}
use Rattle.notes.specs.Format.{NoteEdge, Notes}
use Rattle.eel_base.specs.Fields.{hex_of}
use Rattle.cfg_blocks.specs.declared.EdgeKind.{EdgeKind}
use Rattle.cfg_blocks.specs.declared.EdgeKind.TheVariants.{Fall, Taken, Untaken, Call, Out, Land, Case}
use Rattle.show_text.specs.Lines.{kind_text, line}

-- the kinds in the order of their numbers
abbrev pub kind_of : ℕ → EdgeKind
kind_of number = slice_index_or (Fall ∷ Taken ∷ Untaken ∷ Call ∷ Out ∷ Land ∷ Case ∷ []) number Land

-- the address of a block's first word
abbrev pub noted_block_text : Notes → ℕ → List ℕ
noted_block_text notes block = hex_of (notes.start + 4 * slice_index notes.blocks block)

-- the node after the blocks is `x`, and behind it come their landed copies
unfoldable pub noted_node_text : Notes → ℕ → List ℕ
noted_node_text notes node =
    if nat_lt node (length notes.blocks) then noted_block_text notes node else
    if nat_lt (length notes.blocks) node
    then noted_block_text notes (node - (length notes.blocks + 1)) ++ codes "+" else codes "x"

-- an edge with its number, where it was completed
abbrev pub count_line : Notes → List ℕ → ℕ × NoteEdge → List ℕ
count_line notes counts (number, edge) =
    if slice_index counts number == 0 then [] else
    line (codes "edge" ∷ decimal number ∷ kind_text (kind_of edge.kind) ∷ noted_node_text notes edge.from
    ∷ noted_node_text notes edge.to ∷ decimal (slice_index counts number) ∷ [])

abbrev pub has_cell : NoteEdge → Bool
has_cell edge = is_some edge.cell

-- how many edges there are, how many have a cell, and how often all were completed
abbrev pub sum_line : Notes → List ℕ → List ℕ
sum_line notes counts =
    line (codes "edges" ∷ decimal (length notes.edges) ∷ codes "counted" ∷ decimal (count_by has_cell notes.edges)
    ∷ codes "executions" ∷ decimal (sum counts) ∷ [])

unfoldable pub count_lines : Notes → List ℕ → List ℕ
count_lines notes counts =
    flat_map (count_line notes counts) (enumerate_from 0 notes.edges) ++ sum_line notes counts

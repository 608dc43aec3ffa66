-- The graph that notes tell, and which of its edges are counted.
use Rattle.std.specs.Prelude.{◌≡◌, ℕ, ◌+◌, ◌*◌, Bool, ◌||◌, ◌==◌, nat_le, length, slice_index_or, None}
use Rattle.std.specs.List.{list_any}
use Rattle.std.specs.Option.{is_some}
use Rattle.notes.specs.Format.{NoteEdge, NoteRange, Notes}
use Rattle.flows.specs.Flows.{EdgeSet, Graph, NodeSet, rest}
use Rattle.flows.specs.SpanningTrees.{IsSpanningTree}

-- past the last edge, one from node 0 to itself that isn't counted
abbrev pub no_edge : NoteEdge
no_edge = record { kind = 0; from = 0; to = 0; cell = None }

-- the edge of a number
abbrev pub edge_at : Notes → ℕ → NoteEdge
edge_at notes e = slice_index_or notes.edges e no_edge

-- the number is an end of the edge, or the node of the place
abbrev pub ends_at : ℕ → NoteEdge → Bool
ends_at node edge = (edge.from == node) || (edge.to == node)

abbrev pub lies_at : ℕ → NoteRange → Bool
lies_at node range = range.node == node

-- The nodes are the blocks, one more for all that lies outside, and the landed copies that an edge or a place names.
abbrev pub is_node : Notes → NodeSet
is_node notes node =
    (nat_le node (length notes.blocks) || list_any (ends_at node) notes.edges) || list_any (lies_at node) notes.ranges

-- Numbers and edges; each block may have a landed copy.
abbrev pub noted_graph : Notes → Graph
noted_graph notes = record {
  nodes = 2 * length notes.blocks + 1;
  edges = length notes.edges;
  from = λ e. (edge_at notes e).from;
  to = λ e. (edge_at notes e).to;
}

-- the edges that have a cell are counted
abbrev pub has_cell : Notes → EdgeSet
has_cell notes = λ e. is_some (edge_at notes e).cell

-- notes of a profile: the edges that aren't counted are a spanning tree of the nodes
pub record IsProfile (notes : Notes) : Type 0 where
  pub tool : notes.tool ≡ 1
  pub tree : IsSpanningTree (noted_graph notes) (is_node notes) (rest (has_cell notes))

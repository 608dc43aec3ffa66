-- What only contracts of private functions and models cite.
use Rattle.std.specs.Prelude.{◌≡◌, ℕ, ◌+◌, ◌*◌, ◌<◌, Bool, List, length}
use Rattle.std.specs.Option.{is_some}
use Rattle.flows.specs.Links.{marked}
use Rattle.flows.specs.declared.Link.{Link}
use Rattle.notes.specs.Format.{Notes, NoteEdge}
use Rattle.count_rebuild.specs.Noted.{is_node}

-- the list has for each number whether it is a node
pub record AreNodes (notes : Notes) (marks : List Bool) : Type 0 where
  pub len : length marks ≡ 2 * length notes.blocks + 1
  pub are : (node : ℕ) → node < length marks → marked marks node ≡ is_node notes node

-- the graph as a list, and its edges' cells
abbrev pub link_of : NoteEdge → Link
link_of edge = record { from = edge.from; to = edge.to }

abbrev pub is_counted : NoteEdge → Bool
is_counted edge = is_some edge.cell

-- A graph as a list of links.
use Rattle.std.specs.Prelude.{ℕ, ◌<◌, Bool, false, List, length, slice_index_or, IsTrue}
use Rattle.std.specs.List.{All}
use Rattle.flows.specs.Flows.{Graph}
use Rattle.flows.specs.declared.Link.{Link}

abbrev pub link_at : List Link → ℕ → Link
link_at links e = slice_index_or links e (record { from = 0; to = 0 })

-- the graph of n nodes whose edge e is the link at e
abbrev pub graph_of : ℕ → List Link → Graph
graph_of n links = record {
  nodes = n;
  edges = length links;
  from = λ e. (link_at links e).from;
  to = λ e. (link_at links e).to;
}

-- both ends of each link are below n
abbrev pub IsLinked : ℕ → List Link → Type 0
IsLinked n links = All (λ (l : Link). (l.from < n) × (l.to < n)) links

-- the numbers that are marked in a list
abbrev pub marked : List Bool → ℕ → Bool
marked marks v = slice_index_or marks v false

-- both ends of each link are nodes, by the list of which numbers are
abbrev pub JoinsNodes : List Bool → List Link → Type 0
JoinsNodes is_node links = All (λ (l : Link). IsTrue (marked is_node l.from) × IsTrue (marked is_node l.to)) links

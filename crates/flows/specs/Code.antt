-- What contracts of this crate's code and laws cite beyond the statement.
use Rattle.std.specs.Prelude.{ℕ, ◌<◌}
use Rattle.flows.specs.Flows.{Graph}

-- both ends of each edge are below the number of nodes
abbrev pub IsGraph : Graph → Type 0
IsGraph g = (e : ℕ) → e < g.edges → (g.from e < g.nodes) × (g.to e < g.nodes)

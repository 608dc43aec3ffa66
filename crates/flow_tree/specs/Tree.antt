-- What a tree tells of its graph.
use Rattle.std.specs.Prelude.{◌≡◌, ℕ, ◌<◌, ◌≤◌, List, length, map}
use Rattle.std.specs.List.{All}
use Rattle.flows.specs.Flows.{Graph, NodeSet}
use Rattle.flows.specs.Trees.{only, Grows, joined_by}
use Rattle.flows.specs.Links.{marked}
use Rattle.flow_tree.specs.declared.Join.{Join}
use Rattle.flow_tree.specs.declared.Tree.{Tree}

-- the edges of joins, in order
abbrev pub edges_in : List Join → List ℕ
edges_in joins = map (λ (j : Join). j.edge) joins

-- the nodes that joins bring in, in order
abbrev pub nodes_in : List Join → List ℕ
nodes_in joins = map (λ (j : Join). j.node) joins

-- the edges of a tree, in order
abbrev pub edges_of : Tree → List ℕ
edges_of t = edges_in t.joins.items

-- the nodes of a tree
abbrev pub reached_by : Tree → NodeSet
reached_by t = marked t.reached.items

-- each edge of t was a heaviest of those that crossed
abbrev pub IsHeaviestFirst : Graph → (ℕ → ℕ) → Tree → Type 0
IsHeaviestFirst g w t = Grows g w (only t.root) (edges_of t) (reached_by t)

-- t grew from its root, each time along an edge that crossed
pub record IsGrown (g : Graph) (t : Tree) : Type 0 where
  pub len : length t.reached.items ≡ g.nodes
  pub inside : All (λ (j : Join). j.edge < g.edges) t.joins.items
  pub grows : Grows g (λ e. 0) (only t.root) (edges_of t) (reached_by t)
  pub nodes : nodes_in t.joins.items ≡ joined_by g (only t.root) (edges_of t)

-- of the edges below n none weighs more than one that ranks as high
abbrev pub RisesWith : ℕ → (ℕ → ℕ) → (ℕ → ℕ) → Type 0
RisesWith n rank weight = (e h : ℕ) → e < n → h < n → rank h ≤ rank e → weight h ≤ weight e

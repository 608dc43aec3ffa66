-- What the search for a heaviest tree keeps.
use Rattle.std.specs.Prelude.{◌≡◌, ℕ, ◌<◌, ◌≤◌, ◌⊎◌, Bool, true, List, length, slice_index}
use Rattle.std.specs.List.{All, Contains}
use Rattle.std.specs.Ordering.{nat_cmp, ordering_then}
use Rattle.std.specs.declared.cmp.Ordering.{Ordering}
use Rattle.std.specs.BinaryHeap.{heap_items, IsHeap}
use Rattle.flows.specs.Trees.{crosses, only, joined_by}
use Rattle.flows.specs.Links.{graph_of, marked}
use Rattle.flows.specs.declared.Link.{Link}
use Rattle.flows.specs.Flows.{weight_in}
use Rattle.flow_tree.specs.Tree.{edges_of, nodes_in, reached_by, IsHeaviestFirst}
use Rattle.flow_tree.specs.declared.growth.Candidate.{Candidate}
use Rattle.flow_tree.specs.declared.growth.Search.{Search}

-- by weight, and then by number
abbrev pub candidate_cmp : Candidate → Candidate → Ordering
candidate_cmp x y = ordering_then (nat_cmp x.weight y.weight) (nat_cmp x.edge y.edge)

-- the edge e joins a marked node with one that is not marked
abbrev pub crosses_at : List Link → List Bool → ℕ → Bool
crosses_at links marks e = crosses (graph_of (length marks) links) (marked marks) e

-- the edge e with its weight
abbrev pub candidate : List ℕ → ℕ → Candidate
candidate ws e = record { weight = slice_index ws e; edge = e }

-- c is an edge with its weight
abbrev pub IsReal : List ℕ → Candidate → Type 0
IsReal ws c = (c.edge < length ws) × (c.weight ≡ slice_index ws c.edge)

-- a heap of edges with their weights
abbrev pub AreCandidates : List ℕ → List Candidate → Type 0
AreCandidates ws cs = IsHeap candidate_cmp cs × All (IsReal ws) cs

-- x, a heaviest of the candidates that cross, was taken from them, and no other that crosses
pub record HasTaken (links : List Link) (marks : List Bool) (old new : List Candidate) (x : Candidate) : Type 0 where
  pub there : Contains old x
  pub across : crosses_at links marks x.edge ≡ true
  pub greatest : (c : Candidate) → Contains old c → crosses_at links marks c.edge ≡ true → c.weight ≤ x.weight
  pub others : (c : Candidate) → Contains old c → crosses_at links marks c.edge ≡ true
      → Contains new c ⊎ (c.edge ≡ x.edge)

-- the tree has grown heaviest first, and every edge that crosses is on the heap
pub record IsSearch (n : ℕ) (links : List Link) (ws : List ℕ) (s : Search) : Type 0 where
  pub len : length s.tree.reached.items ≡ n
  pub grows : IsHeaviestFirst (graph_of n links) (weight_in ws) s.tree
  pub nodes : nodes_in s.tree.joins.items ≡ joined_by (graph_of n links) (only s.tree.root) (edges_of s.tree)
  pub candidates : AreCandidates ws (heap_items s.heap)
  pub held :
      (e : ℕ) → e < length links → crosses (graph_of n links) (reached_by s.tree) e ≡ true →
      Contains (heap_items s.heap) (candidate ws e)

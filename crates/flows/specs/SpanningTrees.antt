-- Spanning trees.
use Rattle.std.specs.Prelude.{◌≡◌, ℕ, ◌<◌, IsTrue, ◌+◌}
use Rattle.flows.specs.Flows.{Graph, NodeSet, EdgeSet, count_below}

-- no edge of t joins a node of s with a node outside
abbrev pub NoneCrosses : Graph → EdgeSet → NodeSet → Type 0
NoneCrosses g t s = (e : ℕ) → e < g.edges → IsTrue (t e) → s (g.from e) ≡ s (g.to e)

-- the edges of t join all nodes: a set that none of them leaves has all nodes or none.
-- The nodes are the numbers below g.nodes that pass the test
abbrev pub JoinsAll : Graph → NodeSet → EdgeSet → Type 0
JoinsAll g is_node t =
    (s : NodeSet) → NoneCrosses g t s →
    (u v : ℕ) → u < g.nodes → v < g.nodes → IsTrue (is_node u) → IsTrue (is_node v) → s u ≡ s v

-- t joins all nodes, and has one edge fewer than there are nodes
pub record IsSpanningTree (g : Graph) (is_node : NodeSet) (t : EdgeSet) : Type 0 where
  pub joins : JoinsAll g is_node t
  pub size : count_below g.edges t + 1 ≡ count_below g.nodes is_node

-- What holds of every graph, stated over the definitions alone.
use Rattle.std.specs.Prelude.{◌≡◌, ℕ, ◌<◌, ◌↔◌, List, pos}
use Rattle.flows.specs.Flows.{Graph, NodeSet, EdgeSet, rest, IsFlow, Determines, IsLeast, times}
use Rattle.flows.specs.Walks.{IsWalk, HasCycle}
use Rattle.flows.specs.Trees.{Grows, only, on, HasEveryEnd}
use Rattle.flows.specs.Code.{IsGraph}
use Rattle.flows.specs.SpanningTrees.{IsSpanningTree}

-- how often a walk takes each edge is a flow from where it begins to where it ends
abbrev pub WalksAreFlows : Type 0
WalksAreFlows =
    (g : Graph) (a : ℕ) (es : List ℕ) (b : ℕ) → IsWalk g a es b → IsFlow g a b (λ e. pos (times es e))

-- a set determines the counts exactly where the other edges have no cycle
abbrev pub DeterminesWhereNoCycle : Type 0
DeterminesWhereNoCycle = (g : Graph) (s : EdgeSet) → IsGraph g → Determines g s ↔ (¬ HasCycle g (rest s))

-- flows with the same start and end that agree off a spanning tree are equal
abbrev pub AgreeOffSpanningTree : Type 0
AgreeOffSpanningTree =
    (g : Graph) (is_node : NodeSet) (t : EdgeSet) → IsGraph g → IsSpanningTree g is_node t → Determines g (rest t)

-- the edges off a tree that was grown heaviest first, until it had both ends of each edge, are least
abbrev pub LeastOffHeaviestTree : Type 0
LeastOffHeaviestTree =
    (g : Graph) (w : ℕ → ℕ) (r : ℕ) (es : List ℕ) (t : NodeSet) → IsGraph g → r < g.nodes →
    Grows g w (only r) es t → HasEveryEnd g t → IsLeast g w (rest (on es))

-- a tree that was grown to all nodes, and to no more, is a spanning tree
abbrev pub GrownTreesSpan : Type 0
GrownTreesSpan =
    (g : Graph) (is_node : NodeSet) (w : ℕ → ℕ) (r : ℕ) (es : List ℕ) (t : NodeSet) → IsGraph g → r < g.nodes →
    Grows g w (only r) es t → ((v : ℕ) → v < g.nodes → t v ≡ is_node v) → IsSpanningTree g is_node (on es)

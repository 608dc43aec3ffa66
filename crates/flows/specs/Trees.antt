-- Spanning trees, and how a tree grows from one node, one edge after the other.
use Rattle.std.specs.Prelude.{◌≡◌, ℕ, ◌<◌, ◌≤◌, Bool, true, false, not, ◌||◌, List, [], ◌∷◌, IsTrue, if◌then◌else◌, ◌==◌}
use Rattle.flows.specs.Flows.{Graph, NodeSet, EdgeSet}
use Rattle.flows.specs.SpanningTrees.{JoinsAll}

-- both ends of each edge are in s
abbrev pub HasEveryEnd : Graph → NodeSet → Type 0
HasEveryEnd g s = (e : ℕ) → e < g.edges → IsTrue (s (g.from e)) × IsTrue (s (g.to e))

-- all edges join all nodes, r among them, and no other numbers
pub record IsConnected (g : Graph) (is_node : NodeSet) (r : ℕ) : Type 0 where
  pub root : IsTrue (is_node r)
  pub ends : HasEveryEnd g is_node
  pub joins : JoinsAll g is_node (λ e. true)

-- ---- growth

abbrev pub only : ℕ → NodeSet
only v = λ u. u == v

abbrev pub and_also : NodeSet → ℕ → NodeSet
and_also s v = λ u. s u || (u == v)

abbrev pub differ : Bool → Bool → Bool
differ true q = not q
differ false q = q

-- the edge e joins a node of s with a node outside
abbrev pub crosses : Graph → NodeSet → ℕ → Bool
crosses g s e = differ (s (g.from e)) (s (g.to e))

-- no edge crosses
abbrev pub IsWhole : Graph → NodeSet → Type 0
IsWhole g s = (e : ℕ) → e < g.edges → crosses g s e ≡ false

-- of an edge that crosses, the end outside s
abbrev pub far_end : Graph → NodeSet → ℕ → ℕ
far_end g s e = if s (g.from e) then g.to e else g.from e

-- e crosses, and no edge that crosses weighs more
pub record IsHeaviest (g : Graph) (w : ℕ → ℕ) (s : NodeSet) (e : ℕ) : Type 0 where
  pub inside : e < g.edges
  pub across : crosses g s e ≡ true
  pub heaviest : (h : ℕ) → h < g.edges → crosses g s h ≡ true → w h ≤ w e

-- the edges es grow the set s to t: each is a heaviest of those that cross, and brings its far end in.
-- With weights that are all 0, any edge that crosses may be next
abbrev pub Grows : Graph → (ℕ → ℕ) → NodeSet → List ℕ → NodeSet → Type 0
Grows g w s [] t = t ≡ s
Grows g w s (e ∷ es) t = IsHeaviest g w s e × Grows g w (and_also s (far_end g s e)) es t

-- the nodes that the edges es bring in, in order
abbrev pub joined_by : Graph → NodeSet → List ℕ → List ℕ
joined_by g s [] = []
joined_by g s (e ∷ es) = far_end g s e ∷ joined_by g (and_also s (far_end g s e)) es

-- the edges of a list, as a set
abbrev pub on : List ℕ → EdgeSet
on [] e = false
on (x ∷ xs) e = (e == x) || on xs e

-- Flows on a graph, and the sets of edges whose counts determine all counts, after Ball and Larus,
-- "Optimally Profiling and Tracing Programs", ACM TOPLAS 16 (4), 1994.
use Rattle.std.specs.Prelude.{◌≡◌, ℕ, zero, suc, ◌+◌, ◌<◌, ◌≤◌, Bool, not, ℤ, pos, ◌+ℤ◌, IsTrue, if◌then◌else◌, ◌==◌, List, slice_index, [], ◌∷◌}

-- nodes and edges are numbers: each edge e below `edges` leads from node `from e` to node `to e`
pub record Graph : Type 0 where
  pub nodes : ℕ
  pub edges : ℕ
  pub from : ℕ → ℕ
  pub to : ℕ → ℕ

-- a set of nodes, or of edges, by its test
abbrev pub NodeSet : Type 0
NodeSet = ℕ → Bool

abbrev pub EdgeSet : Type 0
EdgeSet = ℕ → Bool

-- the other edges
abbrev pub rest : EdgeSet → EdgeSet
rest s = λ e. not (s e)

-- f 0 + f 1 + .. + f (n - 1)
abbrev pub total : ℕ → (ℕ → ℤ) → ℤ
total zero f = pos 0
total (suc n) f = total n f +ℤ f n

-- what x brings into node v
abbrev pub sum_in : Graph → (ℕ → ℤ) → ℕ → ℤ
sum_in g x v = total g.edges (λ e. if g.to e == v then x e else pos 0)

-- what x takes out of node v
abbrev pub sum_out : Graph → (ℕ → ℤ) → ℕ → ℤ
sum_out g x v = total g.edges (λ e. if g.from e == v then x e else pos 0)

-- 1 at node a, and 0 elsewhere
abbrev pub one_at : ℕ → ℕ → ℤ
one_at a v = if v == a then pos 1 else pos 0

-- x is a flow from a to b: at each node what comes in, with 1 at a, is what goes out, with 1 at b
abbrev pub IsFlow : Graph → ℕ → ℕ → (ℕ → ℤ) → Type 0
IsFlow g a b x = (v : ℕ) → v < g.nodes → sum_in g x v +ℤ one_at a v ≡ sum_out g x v +ℤ one_at b v

-- x and y are equal on the edges of s
abbrev pub AgreeOn : Graph → EdgeSet → (ℕ → ℤ) → (ℕ → ℤ) → Type 0
AgreeOn g s x y = (e : ℕ) → e < g.edges → IsTrue (s e) → x e ≡ y e

-- x and y are equal on all edges
abbrev pub Agree : Graph → (ℕ → ℤ) → (ℕ → ℤ) → Type 0
Agree g x y = (e : ℕ) → e < g.edges → x e ≡ y e

-- the counts of s determine all counts: for every start and end, two flows that agree on s are equal
abbrev pub Determines : Graph → EdgeSet → Type 0
Determines g s =
    (a b : ℕ) (x y : ℕ → ℤ) → a < g.nodes → b < g.nodes →
    IsFlow g a b x → IsFlow g a b y → AgreeOn g s x y → Agree g x y

-- the weights of those numbers below n that are in s
abbrev pub weight_below : ℕ → (ℕ → ℕ) → (ℕ → Bool) → ℕ
weight_below zero w s = 0
weight_below (suc n) w s = weight_below n w s + (if s n then w n else 0)

-- the weight of a set of edges
abbrev pub weight_of : Graph → (ℕ → ℕ) → EdgeSet → ℕ
weight_of g w s = weight_below g.edges w s

-- how many numbers below n are in s
abbrev pub count_below : ℕ → (ℕ → Bool) → ℕ
count_below n s = weight_below n (λ e. 1) s

-- s determines the counts, and no set that does weighs less
pub record IsLeast (g : Graph) (w : ℕ → ℕ) (s : EdgeSet) : Type 0 where
  pub determines : Determines g s
  pub least : (other : EdgeSet) → Determines g other → weight_of g w s ≤ weight_of g w other

-- x is the one flow from a to b that has the given values on s
pub record IsTheFlow (g : Graph) (s : EdgeSet) (a b : ℕ) (given x : ℕ → ℤ) : Type 0 where
  pub flow : IsFlow g a b x
  pub agrees : AgreeOn g s given x
  pub only : (y : ℕ → ℤ) → IsFlow g a b y → AgreeOn g s given y → Agree g x y

-- the weight of each edge, by a list
abbrev pub weight_in : List ℕ → ℕ → ℕ
weight_in ws e = slice_index ws e

-- how often e stands in a list
abbrev pub times : List ℕ → ℕ → ℕ
times [] e = 0
times (x ∷ xs) e = (if e == x then 1 else 0) + times xs e

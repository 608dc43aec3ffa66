-- Walks along edges, and cycles.
use Rattle.std.specs.Prelude.{◌≡◌, ℕ, ◌<◌, Bool, List, [], ◌∷◌, IsTrue, if◌then◌else◌, ◌==◌, ◌||◌, false}
use Rattle.flows.specs.Flows.{Graph, EdgeSet}

-- the edges es lead from a to b, each from where the one before it ends
abbrev pub IsWalk : Graph → ℕ → List ℕ → ℕ → Type 0
IsWalk g a [] b = a ≡ b
IsWalk g a (e ∷ es) b = (e < g.edges) × (g.from e ≡ a) × IsWalk g (g.to e) es b

-- a step along an edge, forward or against its direction
pub record Step : Type 0 where
  pub edge : ℕ
  pub forward : Bool

-- where a step begins
abbrev pub tail : Graph → Step → ℕ
tail g s = if s.forward then g.from s.edge else g.to s.edge

-- where a step ends
abbrev pub head : Graph → Step → ℕ
head g s = if s.forward then g.to s.edge else g.from s.edge

-- some step takes the edge e
abbrev pub takes : List Step → ℕ → Bool
takes [] e = false
takes (s ∷ ss) e = (e == s.edge) || takes ss e

-- the steps ss lead from a to b along edges of f, and take none twice
abbrev pub IsTrail : Graph → EdgeSet → ℕ → List Step → ℕ → Type 0
IsTrail g f a [] b = a ≡ b
IsTrail g f a (s ∷ ss) b =
    (s.edge < g.edges) × IsTrue (f s.edge) × (tail g s ≡ a) × (takes ss s.edge ≡ false) × IsTrail g f (head g s) ss b

-- the edges of f have a cycle: a trail of at least one step that leads back to where it began
abbrev pub HasCycle : Graph → EdgeSet → Type 0
HasCycle g f = (a : ℕ) × (s : Step) × (ss : List Step) × IsTrail g f a (s ∷ ss) a

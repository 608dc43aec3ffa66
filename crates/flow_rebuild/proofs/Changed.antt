-- One edge changed: how the excess of each node changes. Flows are built on a tree from the last node that was joined back to the first.
use Rattle.flow_rebuild.proofs.Common.{◌≡◌, ℕ, suc, ◌<◌, ◌⊎◌, inl, inr, cond, ap, sym, ◌∙◌, arith, ℤ, pos, ◌+ℤ◌, ◌-ℤ◌, neg_ℤ, ◌==◌, if◌then◌else◌, ints, cases_eq, Graph, one_at, IsFlow, IsGraph, only, total_same, total_change, excess}
use Rattle.flows.proofs.Cuts.{Balanced, root_balanced}
use Rattle.flows.proofs.Nets.{part, net, net_is, part_zero}

-- x with z at the edge e
abbrev pub with_at : (ℕ → ℤ) → ℕ → ℤ → ℕ → ℤ
with_at x e z = λ i. if i == e then z else x i

pub at_itself : (x : ℕ → ℤ) (e : ℕ) (z : ℤ) → with_at x e z e ≡ z
at_itself x e z = grind arith

pub at_other : (x : ℕ → ℤ) (e i : ℕ) (z : ℤ) → (i ≡ e → ⊥) → with_at x e z i ≡ x i
at_other x e i z n = grind arith

-- an edge that carries nothing is set to z
pub excess_set : (g : Graph) (a b : ℕ) (x : ℕ → ℤ) (e : ℕ) (z : ℤ) (v : ℕ) → e < g.edges → x e ≡ pos 0 →
    excess g a b (with_at x e z) v ≡ excess g a b x v +ℤ part (g.to e == v) (g.from e == v) z
excess_set g a b x e z v l o =
    let p = total_change g.edges (λ i. part (g.to i == v) (g.from i == v) (with_at x e z i)) (λ i. part (g.to i == v) (g.from i == v) (x i)) e l
    (λ i m n. ap (part (g.to i == v) (g.from i == v)) (at_other x e i z n)) in
    let q = ap (part (g.to e == v) (g.from e == v)) (at_itself x e z) in
    let r : part (g.to e == v) (g.from e == v) (x e) ≡ pos 0 = rw o (part_zero _ _) in
    omega (arith, ints, p, q, r, net_is g v (with_at x e z), net_is g v x)

-- ---- the step: v is the last node that was joined, by e, and p is e's other end. The edge takes v's excess to p
pub record Moved (g : Graph) (a b : ℕ) (x y : ℕ → ℤ) (v p : ℕ) : Type 0 where
  pub none_left : excess g a b y v ≡ pos 0
  pub taken : excess g a b y p ≡ excess g a b x p +ℤ excess g a b x v
  pub others : (u : ℕ) → (u ≡ v → ⊥) → (u ≡ p → ⊥) → excess g a b y u ≡ excess g a b x u

-- the end that is not v
abbrev pub other_end : Graph → ℕ → ℕ → ℕ
other_end g e v = if g.to e == v then g.from e else g.to e

-- what e is to carry, where v has the excess z
abbrev pub carried : Graph → ℕ → ℕ → ℤ → ℤ
carried g e v z = if g.to e == v then neg_ℤ z else z

-- e joins v
pub moved_on : (g : Graph) (a b : ℕ) (x : ℕ → ℤ) (e v : ℕ) → e < g.edges → x e ≡ pos 0 → (g.to e ≡ v) ⊎ (g.from e ≡ v) → (g.to e ≡ g.from e → ⊥) →
    Moved g a b x (with_at x e (carried g e v (excess g a b x v))) v (other_end g e v)
moved_on g a b x e v l o h n = record {
  none_left = omega (arith, ints, excess_set g a b x e z v l o, here (g.to e) (g.from e) (excess g a b x v) h n);
  taken = omega (arith, ints, excess_set g a b x e z (other_end g e v) l o, there (g.to e) (g.from e) (excess g a b x v) h n);
  others = λ u i j. omega (arith, ints, excess_set g a b x e z u l o, elsewhere (g.to e) (g.from e) u (excess g a b x v) h i j);
}
  where
    z : ℤ
    z = carried g e v (excess g a b x v)

    here : (t f : ℕ) (z : ℤ) → (t ≡ v) ⊎ (f ≡ v) → (t ≡ f → ⊥) → part (t == v) (f == v) (if t == v then neg_ℤ z else z) ≡ neg_ℤ z
    here t f z h n = grind arith

    there : (t f : ℕ) (z : ℤ) → (t ≡ v) ⊎ (f ≡ v) → (t ≡ f → ⊥) → part (t == (if t == v then f else t)) (f == (if t == v then f else t)) (if t == v then neg_ℤ z else z) ≡ z
    there t f z h n = grind arith

    elsewhere : (t f u : ℕ) (z : ℤ) → (t ≡ v) ⊎ (f ≡ v) → (u ≡ v → ⊥) → (u ≡ (if t == v then f else t) → ⊥) → part (t == u) (f == u) (if t == v then neg_ℤ z else z) ≡ pos 0
    elsewhere t f u z h i j = grind arith

-- ---- at the end: where no node but r has an excess, r has none either
-- g with one edge more, from b to a: a flow from a to b and 1 on that edge are balanced everywhere
abbrev closed : Graph → ℕ → ℕ → Graph
closed g a b = record {
  nodes = g.nodes;
  edges = suc g.edges;
  from = λ e. if e == g.edges then b else g.from e;
  to = λ e. if e == g.edges then a else g.to e;
}

closed_ok : (g : Graph) (a b : ℕ) → IsGraph g → a < g.nodes → b < g.nodes → IsGraph (closed g a b)
closed_ok g a b ok la lb e l = let k = ok e in (grind (arith, k), grind (arith, k))

closed_net : (g : Graph) (a b : ℕ) (x : ℕ → ℤ) (v : ℕ) → net (closed g a b) (only v) (with_at x g.edges (pos 1)) ≡ excess g a b x v
closed_net g a b x v =
    let p = total_same g.edges
    (λ e. part (cond (e == g.edges) a (g.to e) == v) (cond (e == g.edges) b (g.from e) == v) (with_at x g.edges (pos 1) e))
    (λ e. part (g.to e == v) (g.from e == v) (x e))
    (λ e l. same e g.edges (g.to e) (g.from e) (x e) l) in
    omega (arith, ints, p, net_is g v x, last g.edges (g.to g.edges) (g.from g.edges) (x g.edges))
  where
    same : (e n t f : ℕ) (z : ℤ) → e < n → part (cond (e == n) a t == v) (cond (e == n) b f == v) (cond (e == n) (pos 1) z) ≡ part (t == v) (f == v) z
    same e n t f z l = grind arith

    last : (n t f : ℕ) (z : ℤ) → part (cond (n == n) a t == v) (cond (n == n) b f == v) (cond (n == n) (pos 1) z) ≡ one_at a v -ℤ one_at b v
    last n t f z = grind arith

pub balanced_flow : (g : Graph) (a b r : ℕ) (x : ℕ → ℤ) → IsGraph g → a < g.nodes → b < g.nodes → ((v : ℕ) → v < g.nodes → (v ≡ r → ⊥) → excess g a b x v ≡ pos 0) → IsFlow g a b x
balanced_flow g a b r x ok la lb h v l =
    let e : excess g a b x v ≡ pos 0 = elim (cases_eq v r) [ inl c ↦ rw c root | inr c ↦ h v l c ] in omega (arith, ints, e)
  where
    others : Balanced (closed g a b) (only r) (with_at x g.edges (pos 1))
    others u m c = closed_net g a b x u ∙ h u m (λ d. grind arith)

    root : excess g a b x r ≡ pos 0
    root = sym (closed_net g a b x r) ∙ root_balanced (closed g a b) r (with_at x g.edges (pos 1)) (closed_ok g a b ok la lb) others

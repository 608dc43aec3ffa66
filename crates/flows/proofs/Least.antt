-- The edges off a grown tree are a least set that determines the counts.
use Rattle.flows.proofs.Common.{◌≡◌, ℕ, ◌+◌, ◌<◌, ◌≤◌, ◌⊎◌, inl, inr, Bool, true, false, not, List, [], ◌∷◌, refl, ap, sym, ◌∙◌, arith, ℤ, pos, ◌+ℤ◌, ◌-ℤ◌, ◌==◌, if◌then◌else◌, ints, cases_eq, or_left, or_parts, Graph, NodeSet, EdgeSet, rest, Determines, IsLeast, weight_of, sum_in, sum_out, one_at, IsGraph, only, and_also, crosses, far_end, Grows, HasEveryEnd, on}
use Rattle.flows.proofs.Bools.{true_or_false, not_twice}
use Rattle.flows.proofs.Cuts.{Balanced, balanced_all}
use Rattle.flows.proofs.Grown.{Within, Independent, far_out, listed_weight, heaviest_tree}
use Rattle.flows.proofs.Nets.{part, net_is, net_sub, part_zero}
use Rattle.flows.proofs.Sums.{total_same, total_zero, total_one}
use Rattle.flows.proofs.Weights.{weight_same, weight_none, weight_more, weight_rest}

-- ---- the ends of an edge that was taken
pub record Ends (g : Graph) (s : NodeSet) (e : ℕ) : Type 0 where
  pub from_in : and_also s (far_end g s e) (g.from e) ≡ true
  pub to_in : and_also s (far_end g s e) (g.to e) ≡ true
  pub one_new : ((far_end g s e ≡ g.to e) × (s (g.from e) ≡ true)) ⊎ ((far_end g s e ≡ g.from e) × (s (g.to e) ≡ true))

pub ends_of : (g : Graph) (s : NodeSet) (e : ℕ) → crosses g s e ≡ true → Ends g s e
ends_of g s e c = record { from_in = grind arith; to_in = grind arith; one_new = grind arith }

pub far_inside : (g : Graph) (s : NodeSet) (e : ℕ) → IsGraph g → e < g.edges → far_end g s e < g.nodes
far_inside g s e ok l = let h = ok e l in grind arith

-- an edge with both ends in s is never taken
pub not_taken : (g : Graph) (w : ℕ → ℕ) (es : List ℕ) (s t : NodeSet) (e : ℕ) → Grows g w s es t → s (g.from e) ≡ true → s (g.to e) ≡ true → on es e ≡ false
not_taken g w [] s t e h p q = refl
not_taken g w (x ∷ xs) s t e h p q =
    let r = not_taken g w xs (and_also s (far_end g s x)) t e h.1 (or_left (s (g.from e)) _ p) (or_left (s (g.to e)) _ q) in
    let a = h.0.across in grind (arith, r, a)

-- at any weights k
pub listed_is : (g : Graph) (w k : ℕ → ℕ) (es : List ℕ) (s t : NodeSet) → Grows g w s es t → weight_of g k (on es) ≡ listed_weight k es
listed_is g w k [] s t h = weight_none g.edges k (on []) (λ e l. refl)
listed_is g w k (x ∷ xs) s t h =
    let d = ends_of g s x h.0.across in
    weight_more g.edges k (on xs) x h.0.inside (not_taken g w xs (and_also s (far_end g s x)) t x h.1 d.from_in d.to_in)
    ∙ ap (λ n. k x + n) (listed_is g w k xs (and_also s (far_end g s x)) t h.1)

-- ---- a grown tree has no cycle
abbrev clear : (ℕ → ℤ) → ℕ → ℕ → ℤ
clear x e i = if i == e then pos 0 else x i

pub no_cycle : (g : Graph) (w : ℕ → ℕ) (es : List ℕ) (s t : NodeSet) → IsGraph g → Grows g w s es t → Independent g s (on es)
no_cycle g w [] s t ok h x wx bx = λ e l. wx e l refl
no_cycle g w (a ∷ es) s t ok h x wx bx = all (λ e l c. let k = no_cycle g w es (and_also s (far_end g s a)) t ok h.1 (clear x a) within balanced e l in grind (arith, k))
  where
    d : Ends g s a
    d = ends_of g s a h.0.across

    within : Within g (on es) (clear x a)
    within e l f = let k = wx e l in grind arith

    apart : (u p : ℕ) → and_also s (far_end g s a) u ≡ false → and_also s (far_end g s a) p ≡ true → p ≡ u → ⊥
    apart u p m n c = true_or_false (and_also s (far_end g s a) p) n (ap (and_also s (far_end g s a)) c ∙ m)

    balanced : Balanced g (and_also s (far_end g s a)) (clear x a)
    balanced u l m =
        let p = apart u (g.from a) m d.from_in in let q = apart u (g.to a) m d.to_in in
        total_same g.edges _ _ (λ i k. grind (arith, p, q)) ∙ bx u l (or_parts (s u) _ m).0

    alone : ((e : ℕ) → e < g.edges → (e ≡ a → ⊥) → x e ≡ pos 0) → part (g.to a == far_end g s a) (g.from a == far_end g s a) (x a) ≡ pos 0
    alone f =
        sym (total_one g.edges (λ e. part (g.to e == far_end g s a) (g.from e == far_end g s a) (x e)) a h.0.inside
        (λ e l c. rw (f e l c) (part_zero _ _)))
        ∙ bx (far_end g s a) (far_inside g s a ok h.0.inside) (far_out g s a h.0.across)

    all : ((e : ℕ) → e < g.edges → (e ≡ a → ⊥) → x e ≡ pos 0) → (e : ℕ) → e < g.edges → x e ≡ pos 0
    all f e l = elim (cases_eq e a) [
      | inl c ↦ ap x c ∙ (let k = h.0.across in let o = far_out g s a k in grind (arith, alone f, k, o))
      | inr c ↦ f e l c
    ]

-- ---- a set determines the counts exactly where the other edges have no cycle
pub determines_if : (g : Graph) (r : ℕ) (d : ℕ → Bool) → IsGraph g → Independent g (only r) (rest d) → Determines g d
determines_if g r d ok ind a b x y la lb fx fy agree e l = let z = ind (λ e. x e -ℤ y e) within balanced e l in omega (arith, ints)
  where
    within : Within g (λ e. not (d e)) (λ e. x e -ℤ y e)
    within e l h = omega (arith, ints, agree e l (grind arith))

    balanced : Balanced g (only r) (λ e. x e -ℤ y e)
    balanced v l h = net_sub g (only v) x y ∙ omega (arith, ints, net_is g v x, net_is g v y, fx v l, fy v l)

-- nothing carried is a flow from a node to itself
pub no_flow : (g : Graph) (a v : ℕ) → sum_in g (λ e. pos 0) v +ℤ one_at a v ≡ sum_out g (λ e. pos 0) v +ℤ one_at a v
no_flow g a v =
    cc (total_zero g.edges (λ e. if g.to e == v then pos 0 else pos 0) (λ e b. grind arith), total_zero g.edges (λ e. if g.from e == v then pos 0 else pos 0) (λ e b. grind arith))

pub only_if : (g : Graph) (r : ℕ) (d : ℕ → Bool) → IsGraph g → r < g.nodes → Determines g d → Independent g (only r) (rest d)
only_if g r d ok lr det z wz bz =
    det r r z (λ e. pos 0) lr lr
    (λ v l. omega (arith, ints, net_is g v z, balanced_all g r z ok bz v l)) (λ v l. no_flow g r v) (λ e l h. wz e l (ap not h))

-- ---- the edges off a grown tree determine the counts, and off a heaviest one they are least
pub off_grown_determines : (g : Graph) (w : ℕ → ℕ) (r : ℕ) (es : List ℕ) (t : NodeSet) → IsGraph g → Grows g w (only r) es t → Determines g (rest (on es))
off_grown_determines g w r es t ok h =
    determines_if g r (rest (on es)) ok (λ x wx bx. no_cycle g w es (only r) t ok h x (λ e l f. wx e l (not_twice (on es e) ∙ f)) bx)

pub off_tree_least : (g : Graph) (w : ℕ → ℕ) (r : ℕ) (es : List ℕ) (t : NodeSet) → IsGraph g → r < g.nodes → Grows g w (only r) es t → HasEveryEnd g t → IsLeast g w (rest (on es))
off_tree_least g w r es t ok lr h ends = record { determines = off_grown_determines g w r es t ok h; least = least }
  where
    least : (other : EdgeSet) → Determines g other → weight_of g w (rest (on es)) ≤ weight_of g w other
    least other d =
        let a = heaviest_tree g w es (only r) t ok h ends (rest other) (only_if g r other ok lr d) in
        let b = listed_is g w w es (only r) t h in
        let c = weight_rest g.edges w (on es) in
        let k = weight_rest g.edges w other in
        omega (arith, a, b, c, k)

-- ---- sets that have the same edges
pub determines_alike : (g : Graph) (s r : EdgeSet) → ((e : ℕ) → e < g.edges → r e ≡ s e) → Determines g s → Determines g r
determines_alike g s r same h a b x y la lb fx fy agree = h a b x y la lb fx fy (λ e l t. agree e l (same e l ∙ t))

pub least_alike : (g : Graph) (w : ℕ → ℕ) (s r : ℕ → Bool) → ((e : ℕ) → e < g.edges → r e ≡ s e) → IsLeast g w s → IsLeast g w r
least_alike g w s r same h = record {
  determines = determines_alike g s r same h.determines;
  least = λ other d. omega (arith, h.least other d, weight_same g.edges w r s same);
}

pub grows_keeps : (g : Graph) (w : ℕ → ℕ) (es : List ℕ) (s t : NodeSet) → Grows g w s es t → (u : ℕ) → s u ≡ true → t u ≡ true
grows_keeps g w [] s t h u k = ap (λ (r : NodeSet). r u) h ∙ k
grows_keeps g w (x ∷ xs) s t h u k = grows_keeps g w xs (and_also s (far_end g s x)) t h.1 u (or_left (s u) _ k)

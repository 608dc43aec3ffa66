-- A tree that is grown from a set of nodes, each time by an edge that no other crossing edge outweighs.
use Rattle.flows.proofs.Common.{◌≡◌, ℕ, ◌+◌, ◌<◌, ◌≤◌, ◌⊎◌, inl, inr, Bool, true, false, not, cond, List, [], ◌∷◌, ◌∙◌, subst, arith, ℤ, pos, ◌-ℤ◌, ◌*ℤ◌, nat_abs, ◌==◌, ints, cases_eq, cases_lt, ne_eqb, and_left, false_from_ne_true, or_from, Graph, NodeSet, EdgeSet, weight_of, IsGraph, only, and_also, crosses, far_end, Grows, HasEveryEnd}
use lib.IntN.{*ℤ_comm, *ℤ-zero}
use Rattle.flows.proofs.Sums.{zero_or_not, factor_zero, total_zero}
use Rattle.flows.proofs.Nets.{net, net_mix}
use Rattle.flows.proofs.Cuts.{Balanced, balanced_out, net_and_also, none_crosses, some_or_none}
use Rattle.flows.proofs.Weights.{weight_none, weight_less, without}

-- x is 0 outside the set f of edges
abbrev pub Within : Graph → (ℕ → Bool) → (ℕ → ℤ) → Type 0
Within g f x = (e : ℕ) → e < g.edges → f e ≡ false → x e ≡ pos 0

-- only 0 is balanced outside s and within f: f has no cycle where s is drawn together to one node
abbrev pub Independent : Graph → NodeSet → (ℕ → Bool) → Type 0
Independent g s f = (x : ℕ → ℤ) → Within g f x → Balanced g s x → (e : ℕ) → e < g.edges → x e ≡ pos 0

-- ---- a larger set of nodes
mix_zero : (k l y z : ℤ) → y ≡ pos 0 → z ≡ pos 0 → k *ℤ y -ℤ l *ℤ z ≡ pos 0
mix_zero k l y z a b =
    let c : k *ℤ y ≡ pos 0 = rw a (*ℤ-zero k) in
    let d : l *ℤ z ≡ pos 0 = rw b (*ℤ-zero l) in
    omega (arith, ints, c, d)

-- with an x that is unbalanced at v alone, the set without an edge that x uses is independent where v is in too
module _ (g : Graph) (s : NodeSet) (v : ℕ) (f : ℕ → Bool) (x : ℕ → ℤ) (h : ℕ)
    (ind : Independent g s f) (wx : Within g f x) (bx : Balanced g (and_also s v) x) (lh : h < g.edges) (nh : 0 < nat_abs (x h))
    (y : ℕ → ℤ) (wy : Within g (without f h) y) (by : Balanced g (and_also s v) y) where
  abbrev k : ℤ
  k = net g (only v) x

  abbrev l : ℤ
  l = net g (only v) y

  within : Within g f y
  within e b c = wy e b (and_left (f e) (not (e == h)) c)

  elsewhere : (t : ℕ) → t < g.nodes → s t ≡ false → (t ≡ v → ⊥) → net g (only t) y ≡ pos 0
  elsewhere t b c e = by t b (or_from (s t) (t == v) c (ne_eqb t v e))

  at : (t : ℕ) → t < g.nodes → s t ≡ false → (t ≡ v) ⊎ (t ≡ v → ⊥) → k *ℤ net g (only t) y -ℤ l *ℤ net g (only t) x ≡ pos 0
  at t b c (inl e) = rw e (let r = *ℤ_comm k l in omega (arith, ints, r))
  at t b c (inr e) = mix_zero k l _ _ (elsewhere t b c e) (bx t b (or_from (s t) (t == v) c (ne_eqb t v e)))

  zero_at : k *ℤ y h -ℤ l *ℤ x h ≡ pos 0
  zero_at = ind (λ e. k *ℤ y e -ℤ l *ℤ x e) (λ e b c. mix_zero k l (y e) (x e) (within e b c) (wx e b c)) (λ t b c. net_mix g (only t) k l y x ∙ at t b c (cases_eq t v)) h lh

  l_zero : l ≡ pos 0
  l_zero =
      let c : k *ℤ y h ≡ pos 0 = rw (wy h lh (grind arith)) (*ℤ-zero k) in
      factor_zero l (x h) nh (omega (arith, ints, c, zero_at))

  pub all_zero : (e : ℕ) → e < g.edges → y e ≡ pos 0
  all_zero = ind y within (λ t b c. elim (cases_eq t v) [ inl e ↦ rw e l_zero | inr e ↦ elsewhere t b c e ])

-- ---- one step: what holds of every independent set beyond v holds here, with an edge that no crossing edge outweighs
module _ (g : Graph) (w : ℕ → ℕ) (s : NodeSet) (v : ℕ) (f : ℕ → Bool) (c r : ℕ) (ok : IsGraph g)
    (ind : Independent g s f) (sv : s v ≡ false)
    (heaviest : (h : ℕ) → h < g.edges → crosses g s h ≡ true → w h ≤ c)
    (rest : (f : ℕ → Bool) → Independent g (and_also s v) f → weight_of g w f ≤ r) where
  balanced : (x : ℕ → ℤ) → Balanced g (and_also s v) x → net g (only v) x ≡ pos 0 → Balanced g s x
  balanced x b z t l c = elim (cases_eq t v) [ inl e ↦ rw e z | inr e ↦ b t l (or_from (s t) (t == v) c (ne_eqb t v e)) ]

  at_all : (x : ℕ → ℤ) → c + r < weight_of g w f → Within g f x → Balanced g (and_also s v) x → (net g (only v) x ≡ pos 0) ⊎ (0 < nat_abs (net g (only v) x)) → (e : ℕ) → e < g.edges → x e ≡ pos 0
  at_all x over wx bx (inl z) = ind x wx (balanced x bx z)
  at_all x over wx bx (inr n) = elim (some_or_none g.edges (λ e. crosses g s e) x) [
    | inl none ↦
        let z : net g (only v) x ≡ pos 0 = omega (arith, ints, none_crosses g s x none, net_and_also g s v x sv, balanced_out g (and_also s v) x ok bx) in
        absurd (omega (arith, rw z at n))
    | inr (h, l, t, m) ↦
        let b = rest (without f h) (all_zero g s v f x h ind wx bx l m) in
        absurd (omega (arith, heaviest h l t, b, weight_less g.edges w f h l (let a = wx h l in grind (arith, a, m))))
  ]

  pub bound : weight_of g w f ≤ c + r
  bound = elim (cases_lt (c + r) (weight_of g w f)) [
    | inr l ↦ l
    | inl over ↦ let a = rest f (λ x wx bx. at_all x over wx bx (zero_or_not (net g (only v) x))) in absurd (omega (arith, a))
  ]

abbrev pub listed_weight : (ℕ → ℕ) → List ℕ → ℕ
listed_weight w [] = 0
listed_weight w (e ∷ es) = w e + listed_weight w es

pub far_out : (g : Graph) (s : NodeSet) (e : ℕ) → crosses g s e ≡ true → s (far_end g s e) ≡ false
far_out g s e c = grind arith

-- where both ends of each edge are in s, no edge is independent
none_at_end : (g : Graph) (s : NodeSet) (f : EdgeSet) → HasEveryEnd g s → Independent g s f → (e : ℕ) → e < g.edges → f e ≡ false
none_at_end g s f ends ind e l =
    let (p, q) = ends e l in
    let z = ind (λ i. cond (i == e) (pos 1) (pos 0)) in
    false_from_ne_true (f e) (λ t. absurd (let o = z (λ i b h. grind arith) (λ v b c. total_zero g.edges _ (λ i m. grind arith)) e l in grind (arith, o)))

-- no independent set outweighs what was grown
pub heaviest_tree : (g : Graph) (w : ℕ → ℕ) (es : List ℕ) (s t : NodeSet) → IsGraph g → Grows g w s es t → HasEveryEnd g t →
    (f : EdgeSet) → Independent g s f → weight_of g w f ≤ listed_weight w es
heaviest_tree g w [] s t ok h ends f ind =
    let z = weight_none g.edges w f (none_at_end g s f (subst (HasEveryEnd g) h ends) ind) in omega (arith, z)
heaviest_tree g w (e ∷ es) s t ok h ends f ind =
    bound g w s (far_end g s e) f (w e) (listed_weight w es) ok ind (far_out g s e h.0.across) h.0.heaviest
    (λ f i. heaviest_tree g w es (and_also s (far_end g s e)) t ok h.1 ends f i)

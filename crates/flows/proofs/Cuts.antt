-- Sets of nodes: their nets, and which edges cross.
use Rattle.flows.proofs.Common.{◌≡◌, ℕ, zero, suc, ◌<◌, ◌≤◌, ◌⊎◌, inl, inr, Bool, true, false, not, ◌||◌, ◌&&◌, refl, ap, sym, ◌∙◌, arith, ℤ, pos, ◌+ℤ◌, nat_abs, ◌==◌, ints, cases_Bool, cases_eq, ne_eqb, and-false, and-true, Graph, NodeSet, IsGraph, only, and_also, crosses}
use Rattle.flows.proofs.Sums.{zero_or_not, total_same, total_zero, total_add}
use Rattle.flows.proofs.Nets.{part, net, all_but, part_same}

-- x is balanced at each node outside s
abbrev pub Balanced : Graph → NodeSet → (ℕ → ℤ) → Type 0
Balanced g s x = (v : ℕ) → v < g.nodes → s v ≡ false → net g (only v) x ≡ pos 0

pub net_join : (g : Graph) (u r : NodeSet) (x : ℕ → ℤ) → ((w : ℕ) → u w ≡ true → r w ≡ true → ⊥) → net g (λ w. u w || r w) x ≡ net g u x +ℤ net g r x
net_join g u r x a =
    total_same g.edges _ _ (λ e l. let into = a (g.to e) in let out = a (g.from e) in grind (arith, into, out))
    ∙ total_add g.edges (λ e. part (u (g.to e)) (u (g.from e)) (x e)) (λ e. part (r (g.to e)) (r (g.from e)) (x e))

-- two sets with the same nodes
pub net_alike : (g : Graph) (u r : NodeSet) (x : ℕ → ℤ) → IsGraph g → ((w : ℕ) → w < g.nodes → u w ≡ r w) → net g u x ≡ net g r x
net_alike g u r x ok a =
    total_same g.edges _ _ (λ e l. let (f, t) = ok e l in ap (λ p. part p (u (g.from e)) (x e)) (a (g.to e) t) ∙ ap (λ q. part (r (g.to e)) q (x e)) (a (g.from e) f))

pub net_none : (g : Graph) (b : Bool) (x : ℕ → ℤ) → net g (λ w. b) x ≡ pos 0
net_none g b x = total_zero g.edges _ (λ e l. part_same b (x e))

-- ---- the nodes below j that are outside s
abbrev upto : NodeSet → ℕ → NodeSet
upto s zero = λ w. false
upto s (suc j) = λ w. upto s j w || ((w == j) && not (s j))

upto_below : (s : NodeSet) (j w : ℕ) → upto s j w ≡ true → w < j
upto_below s zero w e = absurd (cc)
upto_below s (suc j) w e = let r = upto_below s j w in grind (arith, r)

upto_is : (s : NodeSet) (j w : ℕ) → w < j → upto s j w ≡ not (s w)
upto_is s zero w l = absurd (omega arith)
upto_is s (suc j) w l = let r = upto_is s j w in let b = upto_below s j w in grind (arith, r, b)

upto_net : (g : Graph) (s : NodeSet) (x : ℕ → ℤ) → Balanced g s x → (j : ℕ) → j ≤ g.nodes → net g (upto s j) x ≡ pos 0
upto_net g s x b zero l = net_none g false x
upto_net g s x b (suc j) l =
    net_join g (upto s j) (λ w. (w == j) && not (s j)) x (λ w p q. let c = upto_below s j w p in grind (arith, c))
    ∙ (let r = upto_net g s x b j (omega arith) in omega (arith, ints, r, last))
  where
    last : net g (λ w. (w == j) && not (s j)) x ≡ pos 0
    last = elim (cases_Bool (s j)) [ inl e ↦ simp (e, and-false) (net_none g false x) | inr e ↦ simp (e, and-true) (b j (omega arith) e) ]

-- what is balanced at each node outside s brings nothing out of s
pub balanced_out : (g : Graph) (s : NodeSet) (x : ℕ → ℤ) → IsGraph g → Balanced g s x → net g (all_but s) x ≡ pos 0
balanced_out g s x ok b = sym (net_alike g (upto s g.nodes) (all_but s) x ok (λ w l. upto_is s g.nodes w l)) ∙ upto_net g s x b g.nodes (omega arith)

-- one node more in the set
pub net_and_also : (g : Graph) (s : NodeSet) (v : ℕ) (x : ℕ → ℤ) → s v ≡ false → net g (all_but s) x ≡ net g (all_but (and_also s v)) x +ℤ net g (only v) x
net_and_also g s v x h =
    ap (λ u. net g u x) (λ i w. same w i) ∙ net_join g (all_but (and_also s v)) (only v) x (λ w a b. grind arith)
  where
    same : (w : ℕ) → not (s w) ≡ (not (s w || (w == v)) || (w == v))
    same w = grind arith

-- what is balanced at every node but r is balanced at r
pub root_balanced : (g : Graph) (r : ℕ) (z : ℕ → ℤ) → IsGraph g → Balanced g (only r) z → net g (only r) z ≡ pos 0
root_balanced g r z ok bz =
    let a = net_and_also g (λ w. false) r z refl in
    let b = net_none g true z in
    let c = balanced_out g (only r) z ok bz in
    omega (arith, ints, a, b, c)

pub balanced_all : (g : Graph) (r : ℕ) (z : ℕ → ℤ) → IsGraph g → Balanced g (only r) z → (v : ℕ) → v < g.nodes → net g (only v) z ≡ pos 0
balanced_all g r z ok bz v l = elim (cases_eq v r) [ inl c ↦ rw c (root_balanced g r z ok bz) | inr c ↦ bz v l (ne_eqb v r c) ]

-- nothing comes out of s where no edge that crosses carries anything
pub none_crosses : (g : Graph) (s : NodeSet) (x : ℕ → ℤ) → ((e : ℕ) → e < g.edges → crosses g s e ≡ true → x e ≡ pos 0) → net g (all_but s) x ≡ pos 0
none_crosses g s x n = total_zero g.edges _ (λ e l. let h = n e l in grind arith)

-- the first n edges where p holds carry nothing, or there is one that carries something
pub some_or_none : (n : ℕ) (p : ℕ → Bool) (x : ℕ → ℤ) → ((e : ℕ) → e < n → p e ≡ true → x e ≡ pos 0) ⊎ ((e : ℕ) × (e < n) × (p e ≡ true) × (0 < nat_abs (x e)))
some_or_none zero p x = inl (λ e l. absurd (omega arith))
some_or_none (suc n) p x = elim (some_or_none n p x) [
  | inr (e, l, q, k) ↦ inr (e, omega arith, q, k)
  | inl a ↦ elim (cases_Bool (p n)) [
    | inr f ↦ inl (λ e l q. let h = a e in grind arith)
    | inl t ↦ elim (zero_or_not (x n)) [
      | inl z ↦ inl (λ e l q. let h = a e in grind arith)
      | inr k ↦ inr (n, omega arith, t, k)
    ]
  ]
]

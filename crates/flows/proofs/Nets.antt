-- What crosses into a set of nodes, and independent sets of edges.
use Rattle.flows.proofs.Common.{◌≡◌, ℕ, Bool, true, false, not, refl, ◌∙◌, arith, ℤ, pos, ◌+ℤ◌, ◌-ℤ◌, ◌*ℤ◌, neg_ℤ, ◌==◌, if◌then◌else◌, ints, Graph, NodeSet, total, sum_in, sum_out, only}
use lib.IntN.{*ℤ-zero}
use Rattle.flows.proofs.Sums.{mul_add, total_same, total_sub, total_scale}

-- the part of an edge whose head is in the set where p, and its tail where q
abbrev pub part : Bool → Bool → ℤ → ℤ
part true true z = pos 0
part true false z = z
part false true z = neg_ℤ z
part false false z = pos 0

-- what x brings into the set u, less what it takes out
abbrev pub net : Graph → NodeSet → (ℕ → ℤ) → ℤ
net g u x = total g.edges (λ e. part (u (g.to e)) (u (g.from e)) (x e))

abbrev pub all_but : NodeSet → NodeSet
all_but s = λ w. not (s w)

-- ---- parts
pub part_zero : (p q : Bool) → part p q (pos 0) ≡ pos 0
part_zero p q = grind arith

pub part_same : (p : Bool) (z : ℤ) → part p p z ≡ pos 0
part_same p z = grind arith

mul_neg : (k y : ℤ) → k *ℤ neg_ℤ y ≡ neg_ℤ (k *ℤ y)
mul_neg k y = let c : neg_ℤ y +ℤ y ≡ pos 0 = omega (arith, ints) in omega (arith, ints, rw (c, *ℤ-zero k) at (mul_add k (neg_ℤ y) y))

part_mix : (p q : Bool) (k l y z : ℤ) → part p q (k *ℤ y -ℤ l *ℤ z) ≡ k *ℤ part p q y -ℤ l *ℤ part p q z
part_mix true false k l y z = refl
part_mix false true k l y z = omega (arith, ints, mul_neg k y, mul_neg l z)
part_mix true true k l y z = omega (arith, ints, *ℤ-zero k, *ℤ-zero l)
part_mix false false k l y z = omega (arith, ints, *ℤ-zero k, *ℤ-zero l)

-- ---- nets
pub net_is : (g : Graph) (v : ℕ) (x : ℕ → ℤ) → net g (only v) x ≡ sum_in g x v -ℤ sum_out g x v
net_is g v x =
    total_same g.edges _ _ (λ e l. grind arith)
    ∙ total_sub g.edges (λ e. if g.to e == v then x e else pos 0) (λ e. if g.from e == v then x e else pos 0)

pub net_mix : (g : Graph) (u : NodeSet) (k l : ℤ) (y z : ℕ → ℤ) → net g u (λ e. k *ℤ y e -ℤ l *ℤ z e) ≡ k *ℤ net g u y -ℤ l *ℤ net g u z
net_mix g u k l y z =
    total_same g.edges _ _ (λ e b. part_mix (u (g.to e)) (u (g.from e)) k l (y e) (z e))
    ∙ total_sub g.edges (λ e. k *ℤ part (u (g.to e)) (u (g.from e)) (y e)) (λ e. l *ℤ part (u (g.to e)) (u (g.from e)) (z e))
    ∙ let a = total_scale g.edges k (λ e. part (u (g.to e)) (u (g.from e)) (y e)) in
    let b = total_scale g.edges l (λ e. part (u (g.to e)) (u (g.from e)) (z e)) in
    omega (arith, ints, a, b)

pub net_sub : (g : Graph) (u : NodeSet) (y z : ℕ → ℤ) → net g u (λ e. y e -ℤ z e) ≡ net g u y -ℤ net g u z
net_sub g u y z =
    total_same g.edges _ _ (λ e b. grind arith)
    ∙ total_sub g.edges (λ e. part (u (g.to e)) (u (g.from e)) (y e)) (λ e. part (u (g.to e)) (u (g.from e)) (z e))

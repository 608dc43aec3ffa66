-- A set determines the counts exactly where the other edges have no cycle.
use Rattle.flows.proofs.Common.{◌≡◌, ℕ, zero, suc, ◌<◌, ◌≤◌, ◌⊎◌, inl, inr, Bool, true, false, not, ◌||◌, ◌&&◌, cond, List, [], ◌∷◌, refl, ap, sym, subst, arith, ℤ, pos, negsuc, ◌+ℤ◌, ◌==◌, if◌then◌else◌, ◌↔◌, ints, cases_Bool, eqb-true, eq-eqb, or_left, and_parts, and-false, Graph, NodeSet, EdgeSet, rest, total, one_at, IsFlow, Determines, AgreeOn, IsGraph, Step, tail, head, takes, IsTrail, HasCycle, NoneCrosses, only, and_also, crosses, far_end, Grows}
use Rattle.flows.proofs.Sums.{total_change, total_one}
use Rattle.flows.proofs.Nets.{part}
use Rattle.flows.proofs.Cuts.{Balanced, balanced_all, balanced_out}
use Rattle.flows.proofs.Grown.{Within, Independent}
use Rattle.flows.proofs.Least.{Ends, ends_of, determines_if, grows_keeps, no_flow}
use Rattle.flows.proofs.Spanning.{one_if, AllIn, GrownIn, grow_from}

-- ---- a trail as a flow: 1 on each edge that it takes forward, and -1 on each that it takes backward
abbrev unit : Bool → ℤ
unit forward = if forward then pos 1 else negsuc 0

abbrev carried : List Step → ℕ → ℤ
carried [] e = pos 0
carried (s ∷ ss) e = (if e == s.edge then unit s.forward else pos 0) +ℤ carried ss e

-- the edges at v, by the ends `end`, with one step more
carried_total : (n : ℕ) (end : ℕ → ℕ) (v : ℕ) (s : Step) (ss : List Step) → s.edge < n →
    total n (λ e. if end e == v then carried (s ∷ ss) e else pos 0) ≡
    total n (λ e. if end e == v then carried ss e else pos 0) +ℤ (if v == end s.edge then unit s.forward else pos 0)
carried_total n end v s ss l =
    let p = total_change n (λ e. if end e == v then carried (s ∷ ss) e else pos 0) (λ e. if end e == v then carried ss e else pos 0) s.edge l (λ i m c. grind arith) in
    omega (arith, ints, p, here (end s.edge) s.edge (unit s.forward) (carried ss s.edge))
  where
    here : (a e : ℕ) (u c : ℤ) → cond (a == v) (cond (e == e) u (pos 0) +ℤ c) (pos 0) ≡ cond (a == v) c (pos 0) +ℤ cond (v == a) u (pos 0)
    here a e u c = grind arith

trail_is_flow : (g : Graph) (f : EdgeSet) (a b : ℕ) (ss : List Step) → IsTrail g f a ss b → IsFlow g a b (carried ss)
trail_is_flow g f a b [] h v l = rw h (no_flow g b v)
trail_is_flow g f a b (s ∷ ss) h v l =
    let p = carried_total g.edges g.to v s ss h.0 in
    let q = carried_total g.edges g.from v s ss h.0 in
    let r : one_at (tail g s) v ≡ one_at a v = ap (λ t. one_at t v) h.2 in
    let k = trail_is_flow g f (head g s) b ss h.4 v l in
    let t = turn s.forward in
    omega (arith, ints, p, q, r, k, t)
  where
    turn : (d : Bool) → (cond (v == g.to s.edge) (unit d) (pos 0) +ℤ one_at (cond d (g.from s.edge) (g.to s.edge)) v) ≡ (cond (v == g.from s.edge) (unit d) (pos 0) +ℤ one_at (cond d (g.to s.edge) (g.from s.edge)) v)
    turn d = grind arith

not_taken : (ss : List Step) (e : ℕ) → takes ss e ≡ false → carried ss e ≡ pos 0
not_taken [] e h = refl
not_taken (s ∷ ss) e h = let r = not_taken ss e in grind (arith, r)

within_trail : (g : Graph) (f : EdgeSet) (a b : ℕ) (ss : List Step) (e : ℕ) → IsTrail g f a ss b → f e ≡ false → takes ss e ≡ false
within_trail g f a b [] e h n = refl
within_trail g f a b (s ∷ ss) e h n = let r = within_trail g f (head g s) b ss e h.4 n in let k = h.1 in grind (arith, r, k)

-- no edge of a cycle is determined by edges off it
no_cycle_if : (g : Graph) (d : EdgeSet) → IsGraph g → Determines g d → HasCycle g (rest d) → ⊥
no_cycle_if g d ok det (a, s, ss, h) =
    let z : carried (s ∷ ss) s.edge ≡ pos 0 = det a a (carried (s ∷ ss)) (λ e. pos 0) la la (trail_is_flow g (rest d) a a (s ∷ ss) h) (λ v l. no_flow g a v) agree s.edge h.0 in
    let n = not_taken ss s.edge h.3 in
    grind (arith, z, n)
  where
    la : a < g.nodes
    la = let k = ok s.edge h.0 in let at = h.2 in grind (arith, k, at)

    agree : AgreeOn g d (carried (s ∷ ss)) (λ e. pos 0)
    agree e l t = not_taken (s ∷ ss) e (within_trail g (rest d) a a (s ∷ ss) e h (ap not t))

-- ---- where no cycle is, only 0 is balanced
-- each node of s has a trail to r, by edges of d between nodes of s
abbrev Inside : Graph → NodeSet → List Step → Type 0
Inside g s ss = (e : ℕ) → takes ss e ≡ true → (s (g.from e) ≡ true) × (s (g.to e) ≡ true)

record Way (g : Graph) (d : EdgeSet) (s : NodeSet) (r v : ℕ) : Type 0 where
  steps : List Step
  trail : IsTrail g d v steps r
  inside : Inside g s steps

way_more : (g : Graph) (d : EdgeSet) (s : NodeSet) (r e : ℕ) → e < g.edges → d e ≡ true → crosses g s e ≡ true →
    ((v : ℕ) → s v ≡ true → Way g d s r v) → (v : ℕ) → and_also s (far_end g s e) v ≡ true → Way g d (and_also s (far_end g s e)) r v
way_more g d s r e l t c ways v h = elim (cases_Bool (s v)) [
  | inl i ↦ let w = ways v i in record { steps = w.steps; trail = w.trail; inside = wider w.steps w.inside }
  | inr n ↦ added ends.one_new (grind arith)
]
  where
    ends : Ends g s e
    ends = ends_of g s e c

    wider : (ss : List Step) → Inside g s ss → Inside g (and_also s (far_end g s e)) ss
    wider ss i e t = let k = i e t in (or_left (s (g.from e)) _ k.0, or_left (s (g.to e)) _ k.1)

    new : (ss : List Step) → Inside g s ss → takes ss e ≡ false
    new ss i = let k = i e in grind (arith, k)

    inside_new : (b : Bool) (ss : List Step) → Inside g s ss → Inside g (and_also s (far_end g s e)) (record { edge = e; forward = b } ∷ ss)
    inside_new b ss i x t = let k = i x in let p = ends.from_in in let q = ends.to_in in (grind (arith, k), grind (arith, k))

    way : (b : Bool) (u : ℕ) → Way g d s r u → head g (record { edge = e; forward = b }) ≡ u → tail g (record { edge = e; forward = b }) ≡ v
        → Way g d (and_also s (far_end g s e)) r v
    way b u w k m = record {
      steps = record { edge = e; forward = b } ∷ w.steps;
      trail = (l, t, m, new w.steps w.inside, rw (← k) at w.trail);
      inside = inside_new b w.steps w.inside;
    }

    added : ((far_end g s e ≡ g.to e) × (s (g.from e) ≡ true)) ⊎ ((far_end g s e ≡ g.from e) × (s (g.to e) ≡ true)) → v ≡ far_end g s e → Way g d (and_also s (far_end g s e)) r v
    added (inl (f, i)) k = way false (g.from e) (ways (g.from e) i) refl (cc)
    added (inr (f, i)) k = way true (g.to e) (ways (g.to e) i) refl (cc)

ways_grown : (g : Graph) (d : EdgeSet) (r : ℕ) (es : List ℕ) (s t : NodeSet) → Grows g (one_if d) s es t → AllIn d es → ((v : ℕ) → s v ≡ true → Way g d s r v) → (v : ℕ) → t v ≡ true → Way g d t r v
ways_grown g d r [] s t h i ways = subst (λ (s : NodeSet). (v : ℕ) → s v ≡ true → Way g d s r v) (sym h) ways
ways_grown g d r (e ∷ es) s t h i ways = ways_grown g d r es (and_also s (far_end g s e)) t h.1 i.1 (way_more g d s r e h.0.inside i.0 h.0.across ways)

-- a trail from v to r by edges of d, or a set with r and without v that no edge of d leaves
abbrev Parted : Graph → EdgeSet → ℕ → ℕ → Type 0
Parted g d r v = (s : NodeSet) × (NoneCrosses g d s) × (s r ≡ true) × (s v ≡ false)

abbrev Led : Graph → EdgeSet → ℕ → ℕ → Type 0
Led g d r v = (ss : List Step) × IsTrail g d v ss r

led_or_parted : (g : Graph) (d : EdgeSet) (r v : ℕ) → IsGraph g → Led g d r v ⊎ Parted g d r v
led_or_parted g d r v ok = elim (cases_Bool (k.reached v)) [
  | inl h ↦ let w = ways_grown g d r k.edges (only r) k.reached k.grows k.inside start v h in inl (w.steps, w.trail)
  | inr h ↦ inr (k.reached, k.none, grows_keeps g (one_if d) k.edges (only r) k.reached k.grows r (eq-eqb r r refl), h)
]
  where
    k : GrownIn g d (only r)
    k = grow_from g d r ok

    start : (v : ℕ) → only r v ≡ true → Way g d (only r) r v
    start v h = record { steps = []; trail = eqb-true v r h; inside = λ e t. absurd (cc) }

-- ---- the edges of f below n have no cycle, one more edge at a time
abbrev below : ℕ → ℕ → Bool
below zero e = false
below (suc n) e = (e == n) || below n e

below_is : (n e : ℕ) → e < n → below n e ≡ true
below_is zero e l = absurd (omega arith)
below_is (suc n) e l = let r = below_is n e in grind (arith, r)

not_below : (n e : ℕ) → n ≤ e → below n e ≡ false
not_below zero e l = refl
not_below (suc n) e l = let r = not_below n e in grind (arith, r)

abbrev first : EdgeSet → ℕ → EdgeSet
first f n = λ e. f e && below n e

wider_trail : (g : Graph) (f : EdgeSet) (n a b : ℕ) (ss : List Step) → IsTrail g (first f n) a ss b → IsTrail g f a ss b
wider_trail g f n a b [] h = h
wider_trail g f n a b (s ∷ ss) h = (h.0, (and_parts (f s.edge) _ h.1).0, h.2, h.3, wider_trail g f n (head g s) b ss h.4)

-- no node needs to be left out: x is balanced at every node
abbrev nowhere : NodeSet
nowhere = λ v. false

-- a cut that only the edge n crosses: what is balanced carries nothing there
cut_edge : (g : Graph) (f : EdgeSet) (n : ℕ) (s : NodeSet) (x : ℕ → ℤ) → IsGraph g → n < g.edges → NoneCrosses g (first f n) s → s (g.from n) ≡ true → s (g.to n) ≡ false →
    Within g (first f (suc n)) x → Balanced g nowhere x → x n ≡ pos 0
cut_edge g f n s x ok l none sf st wx bx =
    let a = total_one g.edges (λ e. part (not (s (g.to e))) (not (s (g.from e))) (x e)) n l other in
    let b = balanced_out g s x ok (λ v m c. bx v m refl) in
    grind (arith, a, b)
  where
    other : (e : ℕ) → e < g.edges → (e ≡ n → ⊥) → part (not (s (g.to e))) (not (s (g.from e))) (x e) ≡ pos 0
    other e m c = let k = none e m in let w = wx e m in grind (arith, k, w)

one_more : (g : Graph) (f : EdgeSet) (n : ℕ) → IsGraph g → n < g.edges → Independent g nowhere (first f n) → HasCycle g f ⊎ Independent g nowhere (first f (suc n))
one_more g f n ok l ind = elim (cases_Bool (f n)) [
  | inl t ↦ closed t (led_or_parted g (first f n) (g.from n) (g.to n) ok)
  | inr h ↦ inr (λ x wx bx. ind x (λ e m k. wx e m (grind (arith, h, k))) bx)
]
  where
    closed : f n ≡ true → Led g (first f n) (g.from n) (g.to n) ⊎ Parted g (first f n) (g.from n) (g.to n) → HasCycle g f ⊎ Independent g nowhere (first f (suc n))
    closed t (inl (ss, h)) =
        let new = within_trail g (first f n) (g.to n) (g.from n) ss n h (let b = not_below n n (omega arith) in grind arith) in
        inl (g.from n, record { edge = n; forward = true }, ss, (l, t, refl, new, wider_trail g f n (g.to n) (g.from n) ss h))
    closed t (inr (s, none, sf, st)) = inr (λ x wx bx. ind x (within x wx (cut_edge g f n s x ok l none sf st wx bx)) bx)
      where
        within : (x : ℕ → ℤ) → Within g (first f (suc n)) x → x n ≡ pos 0 → Within g (first f n) x
        within x wx z e m h = let w = wx e m in grind (arith, w)

cycle_or_none : (g : Graph) (f : EdgeSet) (n : ℕ) → IsGraph g → n ≤ g.edges → HasCycle g f ⊎ Independent g nowhere (first f n)
cycle_or_none g f zero ok l = inr (λ x wx bx e m. wx e m (and-false (f e)))
cycle_or_none g f (suc n) ok l = elim (cycle_or_none g f n ok (omega arith)) [ inl c ↦ inl c | inr i ↦ one_more g f n ok (omega arith) i ]

determines_where : (g : Graph) (d : EdgeSet) → IsGraph g → (HasCycle g (rest d) → ⊥) → Determines g d
determines_where g d ok acyclic a b x y la lb = determines_if g a d ok (elim (cycle_or_none g (rest d) g.edges ok (omega arith)) [
  | inl c ↦ absurd (acyclic c)
  | inr i ↦ λ z wz bz. i z (λ e m h. wz e m (let b = below_is g.edges e m in grind arith)) (λ v m c. balanced_all g a z ok bz v m)
]) a b x y la lb

pub determines_where_no_cycle : (g : Graph) (d : EdgeSet) → IsGraph g → Determines g d ↔ (¬ HasCycle g (rest d))
determines_where_no_cycle g d ok = (no_cycle_if g d ok, determines_where g d ok)

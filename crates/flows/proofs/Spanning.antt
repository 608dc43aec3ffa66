-- Spanning trees, and how growth tells them.
use Rattle.flows.proofs.Common.{◌≡◌, ℕ, zero, suc, ◌+◌, ◌<◌, ◌≤◌, ◌⊎◌, inl, inr, Bool, true, not, ◌||◌, ◌&&◌, List, [], ◌∷◌, refl, ap, sym, ◌∙◌, arith, ◌==◌, if◌then◌else◌, cases_Bool, eqb-true, eq-eqb, or_left, or_right, and_parts, or_comm, Graph, NodeSet, EdgeSet, rest, Determines, count_below, IsGraph, NoneCrosses, JoinsAll, IsSpanningTree, HasEveryEnd, only, and_also, crosses, far_end, IsWhole, IsHeaviest, Grows, on, IsConnected}
use Rattle.flows.proofs.Bools.{true_or_false, not_twice, differ_equal}
use Rattle.flows.proofs.Grown.{far_out, listed_weight}
use Rattle.flows.proofs.Least.{far_inside, listed_is, no_cycle, determines_if, grows_keeps}
use Rattle.flows.proofs.Weights.{weight_same, weight_more, weight_one}

-- ---- counting
abbrev one : ℕ
one = 1

pub all_count : (n : ℕ) (s : ℕ → Bool) → ((e : ℕ) → e < n → s e ≡ true) → count_below n s ≡ n
all_count zero s h = refl
all_count (suc n) s h = let a = all_count n s (λ e l. h e (omega arith)) in let b = h n (omega arith) in grind (arith, a, b)

-- a set with more than no numbers has a number
pub some_number : (n : ℕ) (s : ℕ → Bool) → 0 < count_below n s → (v : ℕ) × (v < n) × (s v ≡ true)
some_number zero s h = absurd (omega arith)
some_number (suc n) s h = elim (cases_Bool (s n)) [
  | inl c ↦ (n, omega arith, c)
  | inr c ↦ let (v, l, t) = some_number n s (grind arith) in (v, omega arith, t)
]

-- a set in another has no more numbers, and with as many it is the other
pub part_count : (n : ℕ) (s d : ℕ → Bool) → ((e : ℕ) → e < n → s e ≡ true → d e ≡ true) → count_below n s ≤ count_below n d
part_count zero s d h = omega arith
part_count (suc n) s d h = let a = part_count n s d (λ e l. h e (omega arith)) in let b = h n (omega arith) in grind (arith, a, b)

pub same_set : (n : ℕ) (s d : ℕ → Bool) → ((e : ℕ) → e < n → s e ≡ true → d e ≡ true) → count_below n d ≤ count_below n s → (e : ℕ) → e < n → s e ≡ d e
same_set zero s d h l e m = absurd (omega arith)
same_set (suc n) s d h l e m =
    let f = same_set n s d (λ e l. h e (omega arith)) in
    let a = part_count n s d (λ e l. h e (omega arith)) in
    let b = h n (omega arith) in
    let k = (λ (l : count_below n d ≤ count_below n s). f l e) in
    grind (arith, k, a, b)

-- ---- growth counts nodes
-- each edge that is grown joins one node more
pub grown_count : (g : Graph) (w : ℕ → ℕ) (es : List ℕ) (s t : NodeSet) → IsGraph g → Grows g w s es t → listed_weight (λ e. 1) es + count_below g.nodes s ≡ count_below g.nodes t
grown_count g w [] s t ok h = let a = ap (count_below g.nodes) (sym h) in omega (arith, a)
grown_count g w (e ∷ es) s t ok h =
    let a = weight_more g.nodes (λ e. 1) s (far_end g s e) (far_inside g s e ok h.0.inside) (far_out g s e h.0.across) in
    let b = weight_same g.nodes (λ e. 1) (and_also s (far_end g s e)) (λ u. (u == far_end g s e) || s u) (λ u m. or_comm (s u) (u == far_end g s e)) in
    let c = grown_count g w es (and_also s (far_end g s e)) t ok h.1 in
    omega (arith, a, b, c)

-- ---- a tree that was grown from r to all nodes spans
-- a set of nodes that no grown edge leaves has the nodes of t as it has those of s
kept : (g : Graph) (w : ℕ → ℕ) (es : List ℕ) (s t q : NodeSet) (c : Bool) → Grows g w s es t → NoneCrosses g (on es) q → ((u : ℕ) → s u ≡ true → q u ≡ c) → (u : ℕ) → t u ≡ true → q u ≡ c
kept g w [] s t q c h n a u m = a u (ap (λ (r : NodeSet). r u) (sym h) ∙ m)
kept g w (e ∷ es) s t q c h n a u m =
    kept g w es (and_also s (far_end g s e)) t q c h.1 (λ i l o. n i l (or_right (i == e) (on es i) o)) (λ u p. go u p) u m
  where
    go : (u : ℕ) → and_also s (far_end g s e) u ≡ true → q u ≡ c
    go u o =
        let same : q (g.from e) ≡ q (g.to e) = n e h.0.inside (or_left (e == e) (on es e) (eq-eqb e e refl)) in
        let k = h.0.across in let i = a (g.from e) in let j = a (g.to e) in let f = a u in grind (arith, same, k, i, j, f)

pub grown_joins : (g : Graph) (is_node : NodeSet) (w : ℕ → ℕ) (r : ℕ) (es : List ℕ) (t : NodeSet) → Grows g w (only r) es t →
    ((v : ℕ) → v < g.nodes → is_node v ≡ true → t v ≡ true) → JoinsAll g is_node (on es)
grown_joins g is_node w r es t h all q n u v lu lv nu nv =
    k u (all u lu nu) ∙ sym (k v (all v lv nv))
  where
    k : (u : ℕ) → t u ≡ true → q u ≡ q r
    k = kept g w es (only r) t q (q r) h n (λ u m. ap q (eqb-true u r m))

-- one edge fewer than nodes
pub grown_size : (g : Graph) (w : ℕ → ℕ) (r : ℕ) (es : List ℕ) (t : NodeSet) → IsGraph g → r < g.nodes → Grows g w (only r) es t → count_below g.edges (on es) + 1 ≡ count_below g.nodes t
grown_size g w r es t ok lr h =
    let a = listed_is g w (λ e. 1) es (only r) t h in
    let b = grown_count g w es (only r) t ok h in
    let c = weight_one g.nodes (λ e. 1) r lr in
    omega (arith, a, b, c)

pub grown_spans : (g : Graph) (is_node : NodeSet) (w : ℕ → ℕ) (r : ℕ) (es : List ℕ) (t : NodeSet) → IsGraph g → r < g.nodes → Grows g w (only r) es t →
    ((v : ℕ) → v < g.nodes → t v ≡ is_node v) → IsSpanningTree g is_node (on es)
grown_spans g is_node w r es t ok lr h same = record {
  joins = grown_joins g is_node w r es t h (λ v l n. same v l ∙ n);
  size = grown_size g w r es t ok lr h ∙ weight_same g.nodes (λ e. 1) t is_node same;
}

-- ---- growth at the weight 1 for the edges of d, and 0 for the others
abbrev pub one_if : (ℕ → Bool) → ℕ → ℕ
one_if d e = if d e then 1 else 0

-- an edge of d crosses s, or none does
pub search_edge : (g : Graph) (d : ℕ → Bool) (s : NodeSet) (n : ℕ) → ((e : ℕ) × (e < n) × (d e ≡ true) × (crosses g s e ≡ true)) ⊎ ((e : ℕ) → e < n → d e ≡ true → s (g.from e) ≡ s (g.to e))
search_edge g d s zero = inr (λ e l. absurd (omega arith))
search_edge g d s (suc n) = elim (search_edge g d s n) [
  | inl (e, l, p, q) ↦ inl (e, omega arith, p, q)
  | inr f ↦ elim (cases_Bool (d n && crosses g s n)) [
    | inl p ↦ let (p, q) = and_parts (d n) (crosses g s n) p in inl (n, omega arith, p, q)
    | inr p ↦ inr (λ e l m. let h = f e in grind (arith, h, p))
  ]
]

abbrev pub AllIn : (ℕ → Bool) → List ℕ → Type 0
AllIn d [] = Unit {0}
AllIn d (e ∷ es) = (d e ≡ true) × AllIn d es

-- what is on a list in d is in d
pub on_in : (d : ℕ → Bool) (es : List ℕ) (e : ℕ) → AllIn d es → on es e ≡ true → d e ≡ true
on_in d [] e h o = absurd (cc)
on_in d (x ∷ xs) e h o = let f = on_in d xs e h.1 in let a = h.0 in grind (arith, f, a)

far_node : (g : Graph) (is_node s : NodeSet) (e : ℕ) → HasEveryEnd g is_node → e < g.edges → is_node (far_end g s e) ≡ true
far_node g is_node s e ends l = let h = ends e l in grind (arith, h)

-- a set d that joins all nodes, where the ends of all edges are nodes: only edges of d are grown
pub grown_in : (g : Graph) (is_node : NodeSet) (d : EdgeSet) (r : ℕ) (es : List ℕ) (s t : NodeSet) → IsGraph g → HasEveryEnd g is_node → r < g.nodes → is_node r ≡ true → s r ≡ true → JoinsAll g is_node d → Grows g (one_if d) s es t → AllIn d es
grown_in g is_node d r [] s t ok ends lr nr sr j h = tt
grown_in g is_node d r (e ∷ es) s t ok ends lr nr sr j h =
    (here, grown_in g is_node d r es (and_also s (far_end g s e)) t ok ends lr nr (or_left (s r) _ sr) j h.1)
  where
    here : d e ≡ true
    here = elim (search_edge g d s g.edges) [
      | inl (i, l, p, q) ↦ let a = h.0.heaviest i l q in grind (arith, a, p)
      | inr n ↦ true_or_false (s r) sr (j s n r (far_end g s e) lr (far_inside g s e ok h.0.inside) nr (far_node g is_node s e ends h.0.inside) ∙ far_out g s e h.0.across)
    ]

-- ---- the check of a spanning tree, by growth from r that ends at t
pub tree_if : (g : Graph) (is_node : NodeSet) (d : EdgeSet) (r : ℕ) (es : List ℕ) (t : NodeSet) → IsGraph g → r < g.nodes → Grows g (one_if d) (only r) es t →
    ((v : ℕ) → v < g.nodes → is_node v ≡ true → t v ≡ true) → AllIn d es → count_below g.edges d + 1 ≡ count_below g.nodes is_node →
    ((e : ℕ) → e < g.edges → on es e ≡ d e) × IsSpanningTree g is_node d
tree_if g is_node d r es t ok lr h all inside size = (same, record { joins = joins; size = size })
  where
    joins : JoinsAll g is_node d
    joins q n = grown_joins g is_node (one_if d) r es t h all q (λ e l o. n e l (on_in d es e inside o))

    same : (e : ℕ) → e < g.edges → on es e ≡ d e
    same = same_set g.edges (on es) d (λ e l o. on_in d es e inside o)
        (let a = grown_size g (one_if d) r es t ok lr h in let b = part_count g.nodes is_node t all in omega (arith, a, b, size))

pub tree_only_if : (g : Graph) (is_node : NodeSet) (d : EdgeSet) (r : ℕ) (es : List ℕ) (t : NodeSet) → IsGraph g → HasEveryEnd g is_node → r < g.nodes → is_node r ≡ true → Grows g (one_if d) (only r) es t →
    IsWhole g t → IsSpanningTree g is_node d → ((v : ℕ) → v < g.nodes → is_node v ≡ true → t v ≡ true) × AllIn d es
tree_only_if g is_node d r es t ok ends lr nr h whole span = (all, grown_in g is_node d r es (only r) t ok ends lr nr (eq-eqb r r refl) span.joins h)
  where
    all : (v : ℕ) → v < g.nodes → is_node v ≡ true → t v ≡ true
    all v l n = span.joins t (λ e m o. differ_equal (t (g.from e)) (t (g.to e)) (whole e m)) v r l lr n nr ∙ grows_keeps g (one_if d) es (only r) t h r (eq-eqb r r refl)

-- ---- growth that takes edges of d alone, for as long as one crosses
pub record GrownIn (g : Graph) (d : EdgeSet) (s : NodeSet) : Type 0 where
  pub edges : List ℕ
  pub reached : NodeSet
  pub grows : Grows g (one_if d) s edges reached
  pub inside : AllIn d edges
  pub none : NoneCrosses g d reached

fewer_outside : (g : Graph) (s : NodeSet) (e : ℕ) → IsGraph g → e < g.edges → crosses g s e ≡ true →
    count_below g.nodes (λ v. not (s v)) ≡ 1 + count_below g.nodes (λ v. not (and_also s (far_end g s e) v))
fewer_outside g s e ok l c =
    weight_same g.nodes (λ e. 1) (λ v. not (s v)) (λ v. (v == far_end g s e) || not (s v || (v == far_end g s e))) (λ v m. let f = far_out g s e c in grind (arith, f))
    ∙ weight_more g.nodes (λ e. 1) (λ v. not (s v || (v == far_end g s e))) (far_end g s e) (far_inside g s e ok l) (grind arith)

-- `most` bounds the number of nodes outside s
pub grow_in : (g : Graph) (d : EdgeSet) (most : ℕ) (s : NodeSet) → IsGraph g → count_below g.nodes (λ v. not (s v)) ≤ most → GrownIn g d s
grow_in g d zero s ok small = elim (search_edge g d s g.edges) [
  | inr n ↦ record { edges = []; reached = s; grows = refl; inside = tt; none = n }
  | inl (e, l, t, c) ↦ absurd (omega (arith, fewer_outside g s e ok l c))
]
grow_in g d (suc most) s ok small = elim (search_edge g d s g.edges) [
  | inr n ↦ record { edges = []; reached = s; grows = refl; inside = tt; none = n }
  | inl (e, l, t, c) ↦
      let r = grow_in g d most (and_also s (far_end g s e)) ok (omega (arith, fewer_outside g s e ok l c)) in
      let first : IsHeaviest g (one_if d) s e = record { inside = l; across = c; heaviest = λ h m k. grind arith } in
      record { edges = e ∷ r.edges; reached = r.reached; grows = (first, r.grows); inside = (t, r.inside); none = r.none }
]

-- from one node
pub grow_from : (g : Graph) (d : EdgeSet) (r : ℕ) → IsGraph g → GrownIn g d (only r)
grow_from g d r ok = grow_in g d (count_below g.nodes (λ v. not (only r v))) (only r) ok (omega arith)

-- ---- off a spanning tree, the counts are determined
pub off_tree_determines : (g : Graph) (is_node : NodeSet) (t : EdgeSet) → IsGraph g → IsSpanningTree g is_node t → Determines g (rest t)
off_tree_determines g is_node t ok tree = go (some_number g.nodes is_node (let s = tree.size in omega (arith, s)))
  where
    go : (r : ℕ) × (r < g.nodes) × (is_node r ≡ true) → Determines g (rest t)
    go (r, lr, nr) = determines_if g r (rest t) ok (λ x wx bx. no_cycle g (one_if t) k.edges (only r) k.reached ok k.grows x (λ e l o. wx e l (not_twice (t e) ∙ sym (same e l) ∙ o)) bx)
      where
        k : GrownIn g t (only r)
        k = grow_from g t r ok

        all : (v : ℕ) → v < g.nodes → is_node v ≡ true → k.reached v ≡ true
        all v l n = tree.joins k.reached k.none v r l lr n nr ∙ grows_keeps g (one_if t) k.edges (only r) k.reached k.grows r (eq-eqb r r refl)

        same : (e : ℕ) → e < g.edges → on k.edges e ≡ t e
        same = (tree_if g is_node t r k.edges k.reached ok lr k.grows all k.inside tree.size).0

-- ---- a tree that grew from a node of a connected graph until no edge crossed
-- growth along edges between nodes reaches nodes alone
pub reached_nodes : (g : Graph) (is_node : NodeSet) (w : ℕ → ℕ) (es : List ℕ) (s t : NodeSet) → HasEveryEnd g is_node → Grows g w s es t →
    ((v : ℕ) → s v ≡ true → is_node v ≡ true) → (v : ℕ) → t v ≡ true → is_node v ≡ true
reached_nodes g is_node w [] s t ends h a v m = a v (ap (λ (u : NodeSet). u v) (sym h) ∙ m)
reached_nodes g is_node w (e ∷ es) s t ends h a v m =
    let k = far_node g is_node s e ends h.0.inside in
    reached_nodes g is_node w es (and_also s (far_end g s e)) t ends h.1 (λ u o. let f = a u in grind (arith, f, k)) v m

-- such a tree has every node
connected_all : (g : Graph) (is_node : NodeSet) (w : ℕ → ℕ) (r : ℕ) (es : List ℕ) (t : NodeSet) → r < g.nodes → IsConnected g is_node r → Grows g w (only r) es t → IsWhole g t →
    (v : ℕ) → v < g.nodes → is_node v ≡ true → t v ≡ true
connected_all g is_node w r es t lr c h whole v l n =
    c.joins t (λ e m o. differ_equal (t (g.from e)) (t (g.to e)) (whole e m)) v r l lr n c.root ∙ grows_keeps g w es (only r) t h r (eq-eqb r r refl)

pub connected_ends : (g : Graph) (is_node : NodeSet) (w : ℕ → ℕ) (r : ℕ) (es : List ℕ) (t : NodeSet) → IsGraph g → r < g.nodes → IsConnected g is_node r → Grows g w (only r) es t → IsWhole g t → HasEveryEnd g t
connected_ends g is_node w r es t ok lr c h whole e l =
    (connected_all g is_node w r es t lr c h whole (g.from e) (ok e l).0 (c.ends e l).0, connected_all g is_node w r es t lr c h whole (g.to e) (ok e l).1 (c.ends e l).1)

pub connected_spans : (g : Graph) (is_node : NodeSet) (w : ℕ → ℕ) (r : ℕ) (es : List ℕ) (t : NodeSet) → IsGraph g → r < g.nodes → IsConnected g is_node r → Grows g w (only r) es t → IsWhole g t → IsSpanningTree g is_node (on es)
connected_spans g is_node w r es t ok lr c h whole =
    let inside = reached_nodes g is_node w es (only r) t c.ends h (λ v m. ap is_node (eqb-true v r m) ∙ c.root) in
    let all = connected_all g is_node w r es t lr c h whole in
    grown_spans g is_node w r es t ok lr h (λ v l. let f = inside v in let k = all v l in grind (arith, f, k))

-- sets that have the same edges
pub spanning_alike : (g : Graph) (is_node : NodeSet) (s t : EdgeSet) → ((e : ℕ) → e < g.edges → s e ≡ t e) → IsSpanningTree g is_node s → IsSpanningTree g is_node t
spanning_alike g is_node s t same h = record {
  joins = λ q n. h.joins q (λ e l o. n e l (sym (same e l) ∙ o));
  size = ap (λ n. n + 1) (weight_same g.edges (λ e. 1) t s (λ e l. sym (same e l))) ∙ h.size;
}

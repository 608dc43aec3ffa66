-- One step of the search.
use Rattle.flow_tree.proofs.Common.{◌≡◌, ℕ, ◌+◌, ◌<◌, ◌≤◌, ◌⊎◌, inl, inr, Bool, true, false, not, ◌||◌, List, [], ◌∷◌, ◌++◌, length, refl, ap, sym, ◌∙◌, subst, arith, get_or, set, take, ◌==◌, All, Contains, replicate, length-map, get_or-set_other, get_or-replicate, get_or_past, length-replicate, take_more, All-contains, All-nil, All-cons, Graph, IsLeast, NodeSet, rest, Determines, weight_in, IsGraph, graph_of, marked, IsLinked, on, only, and_also, crosses, far_end, IsHeaviest, Grows, IsWhole, joined_by, IsConnected, IsSpanningTree, Link, differ_same, not_twice, ends_of, least_alike, off_tree_least, off_grown_determines, determines_alike, grown_count, same_set, all_count, connected_spans, spanning_alike, connected_ends, weight_one, Row, HasEnds, IsAttached, candidate, IsReal, IsSearch, edges_in, nodes_in, IsGrown, RisesWith, edges_of, reached_by, Join, Candidate}
use Rattle.std.proofs.Math.Bool.{or-false}
use Rattle.flows.proofs.Grown.{listed_weight}
use Rattle.std.proofs.lemmas.Grind.{get_or-set_at}
use Rattle.std.proofs.lemmas.List.{map-append}
use Rattle.flow_tree.specs.declared.growth.Search.{Search}

-- ---- a mark more
pub marked_set : (marks : List Bool) (v : ℕ) → v < length marks → marked (set marks v true) ≡ and_also (marked marks) v
marked_set marks v l = λ i u. at u i
  where
    at : (u : ℕ) → get_or (set marks v true) u false ≡ (get_or marks u false || (u == v))
    at u = grind (arith, get_or-set_at, get_or-set_other)

-- ---- an edge more at the end
pub grows_more : (g : Graph) (w : ℕ → ℕ) (es : List ℕ) (s t : NodeSet) (e : ℕ) → Grows g w s es t → IsHeaviest g w t e → Grows g w s (es ++ e ∷ []) (and_also t (far_end g t e))
grows_more g w [] s t e h k = (subst (λ (u : NodeSet). IsHeaviest g w u e) h k, ap (λ (u : NodeSet). and_also u (far_end g u e)) h)
grows_more g w (x ∷ xs) s t e h k = (h.0, grows_more g w xs (and_also s (far_end g s x)) t e h.1 k)

pub heaviest_here : (n : ℕ) (links : List Link) (ws : List ℕ) (s : NodeSet) (items : List Candidate) (x : Candidate) → length ws ≡ length links → All (IsReal ws) items → Contains items x →
    crosses (graph_of n links) s x.edge ≡ true →
    ((e : ℕ) → e < length links → crosses (graph_of n links) s e ≡ true → Contains items (candidate ws e)) →
    ((c : Candidate) → Contains items c → crosses (graph_of n links) s c.edge ≡ true → c.weight ≤ x.weight) →
    IsHeaviest (graph_of n links) (weight_in ws) s x.edge
heaviest_here n links ws s items x el real there across held greatest =
    let r = All-contains (IsReal ws) items x real there in
    record {
      inside = omega (arith, r.0);
      across = across;
      heaviest = λ h l k. let a = greatest (candidate ws h) (held h l k) k in omega (arith, a, r.1);
    }

-- what crosses with v in crossed before, or it is an edge at v
newly : (g : Graph) (s : NodeSet) (v e : ℕ) → crosses g (and_also s v) e ≡ true → (crosses g s e ≡ true) ⊎ ((g.from e ≡ v) ⊎ (g.to e ≡ v))
newly g s v e h = grind arith

-- every edge that crosses is on the heap again
pub held_again : (n : ℕ) (links : List Link) (ws : List ℕ) (rows : List Row) (s : NodeSet) (old mid new : List Candidate) (x : ℕ) (v : ℕ) →
    v ≡ far_end (graph_of n links) s x → crosses (graph_of n links) s x ≡ true →
    ((e : ℕ) → e < length links → crosses (graph_of n links) s e ≡ true → Contains old (candidate ws e)) →
    ((c : Candidate) → Contains old c → crosses (graph_of n links) s c.edge ≡ true → Contains mid c ⊎ (c.edge ≡ x)) →
    ((c : Candidate) → Contains mid c → Contains new c) →
    HasEnds links (length links) rows →
    ((e : ℕ) → IsAttached rows v e → crosses (graph_of n links) (and_also s v) e ≡ true → Contains new (candidate ws e)) →
    (e : ℕ) → e < length links → crosses (graph_of n links) (and_also s v) e ≡ true → Contains new (candidate ws e)
held_again n links ws rows s old mid new x v vf across held others kept ends added e l h =
    elim (newly (graph_of n links) s v e h) [
      | inl k ↦ elim (others (candidate ws e) (held e l k) k) [ inl m ↦ kept (candidate ws e) m | inr c ↦ absurd (not_x c) ]
      | inr (inl c) ↦ added e (rw c at (ends e l).0) h
      | inr (inr c) ↦ added e (rw c at (ends e l).1) h
    ]
  where
    not_x : e ≡ x → ⊥
    not_x c = let d = ends_of (graph_of n links) s x across in let gone = differ_same _ _ d.from_in d.to_in in absurd (cc)

-- ---- the start
pub begun_marks : (n root : ℕ) (marks : List Bool) → marks ≡ replicate n false → root < length marks → marked (set marks root true) ≡ only root
begun_marks n root marks e l = marked_set marks root l ∙ (λ i. and_also (λ v. none v i) root)
  where
    none : (v : ℕ) → marked marks v ≡ false
    none v = grind (arith, get_or-replicate, get_or_past, length-replicate)

pub held_first : (n root : ℕ) (links : List Link) (ws : List ℕ) (rows : List Row) (new : List Candidate) → HasEnds links (length links) rows → ((e : ℕ) → IsAttached rows root e → crosses (graph_of n links) (only root) e ≡ true → Contains new (candidate ws e)) →
    (e : ℕ) → e < length links → crosses (graph_of n links) (only root) e ≡ true → Contains new (candidate ws e)
held_first n root links ws rows new ends added e l h = elim (newly (graph_of n links) (λ w. false) root e h) [
  | inl k ↦ absurd (cc)
  | inr (inl c) ↦ added e (rw c at (ends e l).0) h
  | inr (inr c) ↦ added e (rw c at (ends e l).1) h
]

-- ---- the end
pub graph_ok : (n : ℕ) (links : List Link) → IsLinked n links → IsGraph (graph_of n links)
graph_ok n links h e l = h e _ l

pub listed_length : (es : List ℕ) → listed_weight (λ e. 1) es ≡ length es
listed_length [] = refl
listed_length (x ∷ xs) = omega (arith, listed_length xs)

-- one edge fewer than numbers: no number is left
pub everything_at_end : (g : Graph) (w : ℕ → ℕ) (es : List ℕ) (r : ℕ) (t : NodeSet) → IsGraph g → r < g.nodes → Grows g w (only r) es t → length es + 1 ≡ g.nodes →
    (v : ℕ) → v < g.nodes → t v ≡ true
everything_at_end g w es r t ok lr h e v l =
    let a = grown_count g w es (only r) t ok h in
    let b = listed_length es in
    let c = weight_one g.nodes (λ e. 1) r lr in
    let d = all_count g.nodes (λ v. true) (λ v l. refl) in
    same_set g.nodes t (λ v. true) (λ v l k. refl) (omega (arith, a, b, c, d)) v l

pub whole_at_end : (g : Graph) (w : ℕ → ℕ) (es : List ℕ) (r : ℕ) (t : NodeSet) → IsGraph g → r < g.nodes → Grows g w (only r) es t → length es + 1 ≡ g.nodes → IsWhole g t
whole_at_end g w es r t ok lr h e i l =
    let all = everything_at_end g w es r t ok lr h e in
    rw (all (g.from i) (ok i l).0, all (g.to i) (ok i l).1) refl

-- ---- sets of edges
pub on_push : (xs : List ℕ) (y e : ℕ) → on (xs ++ y ∷ []) e ≡ (on xs e || (e == y))
on_push [] y e = or-false (e == y)
on_push (x ∷ xs) y e = let rest = on_push xs y e in grind (arith, rest)

-- only edges of the graph are taken
pub joins_inside : (g : Graph) (w : ℕ → ℕ) (js : List Join) (s t : NodeSet) → Grows g w s (edges_in js) t → All (λ (j : Join). j.edge < g.edges) js
joins_inside g w [] s t h = All-nil (λ (j : Join). j.edge < g.edges)
joins_inside g w (x ∷ xs) s t h = All-cons (λ (j : Join). j.edge < g.edges) x xs h.0.inside (joins_inside g w xs (and_also s (far_end g s x.edge)) t h.1)

-- ---- which edges are counted
pub counted_determines : (n : ℕ) (links : List Link) (w : ℕ → ℕ) (r : ℕ) (es : List ℕ) (t : NodeSet) (off : List Bool) → IsLinked n links →
    Grows (graph_of n links) w (only r) es t → ((e : ℕ) → e < length links → marked off e ≡ rest (on es) e) → Determines (graph_of n links) (marked off)
counted_determines n links w r es t off ok h same = determines_alike (graph_of n links) (rest (on es)) (marked off) same (off_grown_determines (graph_of n links) w r es t (graph_ok n links ok) h)

pub counted_spans : (n : ℕ) (links : List Link) (w : ℕ → ℕ) (r : ℕ) (es : List ℕ) (t : NodeSet) (off : List Bool) (is_node : NodeSet) → r < n → IsLinked n links →
    Grows (graph_of n links) w (only r) es t → IsWhole (graph_of n links) t → ((e : ℕ) → e < length links → marked off e ≡ rest (on es) e) →
    IsConnected (graph_of n links) is_node r → IsSpanningTree (graph_of n links) is_node (rest (marked off))
counted_spans n links w r es t off is_node lr ok h whole same c =
    spanning_alike (graph_of n links) is_node (on es) (rest (marked off)) (λ e l. sym (ap not (same e l) ∙ not_twice (on es e)))
    (connected_spans (graph_of n links) is_node w r es t (graph_ok n links ok) lr c h whole)

-- a growth by ranks is one by weights that rise with them
pub grows_by : (g : Graph) (rank weight : ℕ → ℕ) (es : List ℕ) (s t : NodeSet) → RisesWith g.edges rank weight
    → Grows g rank s es t → Grows g weight s es t
grows_by g rank weight [] s t rises h = h
grows_by g rank weight (x ∷ xs) s t rises h = (
  record { inside = h.0.inside; across = h.0.across; heaviest = λ e l c. rises x e h.0.inside l (h.0.heaviest e l c) },
  grows_by g rank weight xs (and_also s (far_end g s x)) t rises h.1,
)

pub counted_least : (n : ℕ) (links : List Link) (rank weight : ℕ → ℕ) (r : ℕ) (es : List ℕ) (t : NodeSet) (off : List Bool) (is_node : NodeSet) → r < n → IsLinked n links →
    RisesWith (length links) rank weight → Grows (graph_of n links) rank (only r) es t → IsWhole (graph_of n links) t →
    ((e : ℕ) → e < length links → marked off e ≡ rest (on es) e) → IsConnected (graph_of n links) is_node r → IsLeast (graph_of n links) weight (marked off)
counted_least n links rank weight r es t off is_node lr ok rises h whole same c =
    let by_weight = grows_by (graph_of n links) rank weight es (only r) t rises h in
    least_alike (graph_of n links) weight (rest (on es)) (marked off) same
    (off_tree_least (graph_of n links) weight r es t (graph_ok n links ok) lr by_weight
    (connected_ends (graph_of n links) is_node weight r es t (graph_ok n links ok) lr c by_weight whole))

-- ---- joins
pub edges-push : (xs : List Join) (j : Join) → edges_in (xs ++ j ∷ []) ≡ edges_in xs ++ j.edge ∷ []
edges-push xs j = simp (map-append)

pub nodes-push : (xs : List Join) (j : Join) → nodes_in (xs ++ j ∷ []) ≡ nodes_in xs ++ j.node ∷ []
nodes-push xs j = simp (map-append)

pub joined_by-push : (g : Graph) (w : ℕ → ℕ) (es : List ℕ) (s t : NodeSet) (e : ℕ) → Grows g w s es t → joined_by g s (es ++ e ∷ []) ≡ joined_by g s es ++ far_end g t e ∷ []
joined_by-push g w [] s t e h = ap (λ (u : NodeSet). far_end g u e ∷ []) (sym h)
joined_by-push g w (x ∷ xs) s t e h = ap (λ (ys : List ℕ). far_end g s x ∷ ys) (joined_by-push g w xs (and_also s (far_end g s x)) t e h.1)

-- a growth heaviest first is a growth
pub grows_anyhow : (g : Graph) (w : ℕ → ℕ) (es : List ℕ) (s t : NodeSet) → Grows g w s es t → Grows g (λ e. 0) s es t
grows_anyhow g w es s t h = grows_by g w (λ e. 0) es s t (λ e h l k le. omega arith) h

pub search_grown : (n m : ℕ) (links : List Link) (ws : List ℕ) (s : Search) → m ≡ n → IsSearch m links ws s → IsGrown (graph_of n links) s.tree
search_grown n m links ws s e h = rw (← e) (record {
  len = h.len;
  inside = joins_inside (graph_of m links) (weight_in ws) s.tree.joins.items _ _ h.grows;
  grows = grows_anyhow (graph_of m links) (weight_in ws) _ _ _ h.grows;
  nodes = h.nodes;
})

pub search_whole : (n : ℕ) (links : List Link) (ws : List ℕ) (s : Search) → IsLinked n links → s.tree.root < n → length s.tree.joins.items + 1 ≡ n → IsSearch n links ws s → IsWhole (graph_of n links) (reached_by s.tree)
search_whole n links ws s ok l e h =
    whole_at_end (graph_of n links) (weight_in ws) (edges_of s.tree) s.tree.root (reached_by s.tree) (graph_ok n links ok) l h.grows
    (let k = length-map s.tree.joins.items (λ (j : Join). j.edge) in omega (arith, k, e))

-- the edges of one join more
pub on_more : (js : List Join) (i : ℕ) (d : Join) (e : ℕ) → i < length js → on (edges_in (take (i + 1) js)) e ≡ (on (edges_in (take i js)) e || (e == (get_or js i d).edge))
on_more js i d e l =
    rw (take_more js i d l, edges-push (take i js) (get_or js i d)) (on_push (edges_in (take i js)) (get_or js i d).edge e)

pub off_more : (off : List Bool) (js : List Join) (i e : ℕ) (d : Join) → i < length js → (get_or js i d).edge < length off → marked off e ≡ not (on (edges_in (take i js)) e) →
    marked (set off (get_or js i d).edge false) e ≡ not (on (edges_in (take (i + 1) js)) e)
off_more off js i e d l m h =
    rw (on_more js i d e l) (grind (arith, h, get_or-set_at, get_or-set_other))

-- Growth at the weights 1 and 0 tells a spanning tree.
use Rattle.flow_tree.proofs.Common.{◌≡◌, ℕ, zero, suc, ◌+◌, ◌-◌, ◌<◌, Bool, true, false, List, [], ◌∷◌, length, refl, ap, ◌∙◌, subst, arith, map, if◌then◌else◌, All, eqb-true, get_or_past, get_or-map, length-map, All-cons, All-nil, All-head, All-tail, Graph, count_below, NodeSet, EdgeSet, rest, weight_in, IsGraph, JoinsNodes, IsLinked, graph_of, marked, HasEveryEnd, IsWhole, on, Grows, only, IsSpanningTree, Link, listed_is, tree_if, AllIn, part_count, one_if, tree_only_if, grown_size, same_set, all_count, reached_nodes, weight_rest, edges_in, edges_of, reached_by, IsHeaviestFirst, Join}
use Rattle.flow_tree.specs.declared.Tree.{Tree}
use Rattle.flow_tree.proofs.Steps.{listed_length, graph_ok, grows_by}

pub all_in : (d : EdgeSet) (js : List Join) → All (λ j. d j.edge ≡ true) js → AllIn d (edges_in js)
all_in d [] h = tt
all_in d (x ∷ xs) h = (All-head (λ (j : Join). d j.edge ≡ true) x xs h, all_in d xs (All-tail (λ (j : Join). d j.edge ≡ true) x xs h))

pub all_from : (d : EdgeSet) (js : List Join) → AllIn d (edges_in js) → All (λ j. d j.edge ≡ true) js
all_from d [] h = All-nil (λ (j : Join). d j.edge ≡ true)
all_from d (x ∷ xs) h = All-cons (λ (j : Join). d j.edge ≡ true) x xs h.0 (all_from d xs h.1)

weights_are : (counted : List Bool) (ws : List ℕ) (e : ℕ) → ws ≡ map (λ (c : Bool). if c then zero else suc zero) counted → e < length counted → weight_in ws e ≡ one_if (rest (marked counted)) e
weights_are counted ws e h l =
    rw (h, get_or-map (λ (c : Bool). if c then zero else suc zero) counted e false 0 l) (grind arith)

-- a marked number is below the list's length
pub marked_below : (marks : List Bool) (v : ℕ) → marked marks v ≡ true → v < length marks
marked_below marks v h = grind (arith, h, get_or_past)

pub linked_nodes : (is_node : List Bool) (links : List Link) → JoinsNodes is_node links → IsLinked (length is_node) links
linked_nodes is_node links h e d l = let k = h e d l in (marked_below is_node _ k.0, marked_below is_node _ k.1)

-- a set and the rest are all numbers
rest_count : (n : ℕ) (s : ℕ → Bool) → count_below n s + count_below n (rest s) ≡ n
rest_count n s = weight_rest n (λ e. 1) s ∙ all_count n (λ e. true) (λ e l. refl)

pub from_root : (g : Graph) (w : ℕ → ℕ) (t : Tree) (r : ℕ) → t.root ≡ r → IsHeaviestFirst g w t → Grows g w (only r) (edges_of t) (reached_by t)
from_root g w t r e h = subst (λ (r : ℕ). Grows g w (only r) (edges_of t) (reached_by t)) e h

-- what `span` learns from one growth: the edges es, in order, to the nodes t
module _ (is_node : List Bool) (links : List Link) (r : ℕ) (counted : List Bool) (ws : List ℕ) (js : List Join) (t : NodeSet)
    (nodes : JoinsNodes is_node links) (root : marked is_node r ≡ true) (few : length counted ≡ length links) (are : ws ≡ map (λ (c : Bool). if c then zero else suc zero) counted)
    (h : Grows (graph_of (length is_node) links) (weight_in ws) (only r) (edges_in js) t) where
  grown : Grows (graph_of (length is_node) links) (one_if (rest (marked counted))) (only r) (edges_in js) t
  grown = grows_by (graph_of (length is_node) links) (weight_in ws) (one_if (rest (marked counted))) (edges_in js) (only r) t
      (λ e i l k le.
      omega (arith, le, weights_are counted ws e are (omega arith), weights_are counted ws i are (omega arith))) h

  ok : IsGraph (graph_of (length is_node) links)
  ok = graph_ok (length is_node) links (linked_nodes is_node links nodes)

  ends : HasEveryEnd (graph_of (length is_node) links) (marked is_node)
  ends e l = nodes e _ l

  in_root : (v : ℕ) → only r v ≡ true → marked is_node v ≡ true
  in_root v m = ap (marked is_node) (eqb-true v r m) ∙ root

  -- the tree's size says how many nodes it has
  size : length js + 1 ≡ count_below (length is_node) t
  size =
      let a = grown_size (graph_of (length is_node) links) (one_if (rest (marked counted))) r (edges_in js) t ok (marked_below is_node r root) grown in
      let b = listed_is (graph_of (length is_node) links) (one_if (rest (marked counted))) (λ e. 1) (edges_in js) (only r) t grown in
      let c = listed_length (edges_in js) in
      let d = length-map js (λ (j : Join). j.edge) in
      omega (arith, a, b, c, d)

  pub reached : length js + 1 ≡ count_below (length is_node) (marked is_node) → (v : ℕ) → v < length is_node → t v ≡ marked is_node v
  reached a = same_set (length is_node) t (marked is_node) (λ v l m. reached_nodes (graph_of (length is_node) links) (marked is_node) (one_if (rest (marked counted))) (edges_in js) (only r) t ends grown in_root v m)
      (let b = size in omega (arith, a, b))

  pub is_tree : length js + 1 ≡ count_below (length is_node) (marked is_node) → count_below (length links) (rest (marked counted)) + 1 ≡ count_below (length is_node) (marked is_node) → All (λ j. rest (marked counted) j.edge ≡ true) js →
      ((e : ℕ) → e < length links → on (edges_in js) e ≡ rest (marked counted) e) × IsSpanningTree (graph_of (length is_node) links) (marked is_node) (rest (marked counted))
  is_tree a b c =
      tree_if (graph_of (length is_node) links) (marked is_node) (rest (marked counted)) r (edges_in js) t ok (marked_below is_node r root) grown
      (λ v l n. reached a v l ∙ n) (all_in (rest (marked counted)) js c) b

  parts : IsWhole (graph_of (length is_node) links) t → IsSpanningTree (graph_of (length is_node) links) (marked is_node) (rest (marked counted)) →
      ((v : ℕ) → v < length is_node → marked is_node v ≡ true → t v ≡ true) × AllIn (rest (marked counted)) (edges_in js)
  parts w s = tree_only_if (graph_of (length is_node) links) (marked is_node) (rest (marked counted)) r (edges_in js) t ok ends (marked_below is_node r root) root grown w s

  pub tree_taken : IsWhole (graph_of (length is_node) links) t → IsSpanningTree (graph_of (length is_node) links) (marked is_node) (rest (marked counted)) → All (λ j. rest (marked counted) j.edge ≡ true) js
  tree_taken w s = all_from (rest (marked counted)) js (parts w s).1

  pub tree_length : IsWhole (graph_of (length is_node) links) t → IsSpanningTree (graph_of (length is_node) links) (marked is_node) (rest (marked counted)) → length js + 1 ≡ count_below (length is_node) (marked is_node)
  tree_length w s =
      let a = size in
      let b = part_count (length is_node) (marked is_node) t (parts w s).0 in
      let c = part_count (length is_node) t (marked is_node) (λ v l m. reached_nodes (graph_of (length is_node) links) (marked is_node) (one_if (rest (marked counted))) (edges_in js) (only r) t ends grown in_root v m) in
      omega (arith, a, b, c)

  -- the uncounted edges are as many as the list says
  pub uncounted_many : (n : ℕ) → n ≡ count_below (length counted) (marked counted) → length counted - n ≡ count_below (length links) (rest (marked counted))
  uncounted_many n e =
      let a = rest_count (length counted) (marked counted) in
      let b : count_below (length counted) (rest (marked counted)) ≡ count_below (length links) (rest (marked counted)) = ap (λ m. count_below m (rest (marked counted))) few in
      omega (arith, a, b, e)

-- The flow graph as a plain one: the list of links is the same, and its edges join all nodes.
use Rattle.span_tree.proofs.Common.{◌≡◌, ℕ, ◌+◌, ◌-◌, ◌<◌, ◌≤◌, ◌⊎◌, inl, inr, true, false, List, length, map, Some, refl, ap, sym, ◌∙◌, subst, arith, cases_lt, cases_Bool, lt-ltb, length-map, All-from_get_or, All-get_or, All-map, All-weaker, recursion_from_All, NodeSet, IsLinked, plain_of, IsConnected, Link, Blocks, Edge, Node, Block, Landed, X, Open, is_copied, jumps_in, targets_in, Graph, edges_in, has_cases, lands_of, is_node, node_number, node_numbers, link_of, links_of, no_edge}
use Rattle.std.proofs.Math.ListN.{get_or-map}
use Rattle.std.proofs.lemmas.Bool.Decides.{nat_tests}
use Rattle.flows.specs.SpanningTrees.{NoneCrosses}
use Rattle.cfg_normal.specs.Code.{IsEdgeIn, IsGraph, IsNodeIn}
use Rattle.span_tree.proofs.Landings.{Each, block, cased, copy, first_of, landed_block, landed_copy, lands_plain, targets_some}

-- ---- the list of links

links_are : (g : Graph) → plain_of (node_numbers g) (map (link_of g) g.edges) ≡ links_of g
links_are g = λ i. record {
  nodes = node_numbers g;
  edges = length-map g.edges (link_of g) i;
  from = λ e. ap (λ (l : Link). l.from) (get_or-map (link_of g) g.edges e no_edge) i;
  to = λ e. ap (λ (l : Link). l.to) (get_or-map (link_of g) g.edges e no_edge) i;
}

pub plain_is : (g : Graph) (n : ℕ) (links : List Link) → n ≡ node_numbers g
    → links ≡ map (link_of g) g.edges → plain_of n links ≡ links_of g
plain_is g n links nodes are = ap (λ (n : ℕ). plain_of n links) nodes
    ∙ ap (plain_of (node_numbers g)) are ∙ links_are g

pub number_inside : (g : Graph) (node : Node) → IsNodeIn g.blocks g.opens node → node_number g node < node_numbers g
number_inside g node h = grind arith

linked : (g : Graph) → IsGraph g → IsLinked (node_numbers g) (map (link_of g) g.edges)
linked g is =
    let n = node_numbers g in
    All-map (λ (l : Link). (l.from < n) × (l.to < n)) (link_of g) g.edges
    (All-weaker (IsEdgeIn g.blocks g.opens) (λ (edge : Edge). (node_number g edge.from < n) × (node_number g edge.to < n))
    (λ edge h. (number_inside g edge.from h.from, number_inside g edge.to h.to)) g.edges is.edges)

pub linked_as : (g : Graph) (n : ℕ) (links : List Link) → IsGraph g → n ≡ node_numbers g
    → links ≡ map (link_of g) g.edges → IsLinked n links
linked_as g n links is nodes are = rw (nodes, are) (linked g is)

-- ---- the numbers of nodes are those that pass the test

pub numbered : (g : Graph) (node : Node) → IsNodeIn g.blocks g.opens node → is_node g (node_number g node) ≡ true
numbered g node h = grind (arith, nat_tests, h)

-- ---- all nodes are joined

module _ (g : Graph) (is : IsGraph g) where
  abbrev b : Blocks
  b = g.blocks

  abbrev opens : List Open
  opens = g.opens

  abbrev outside : ℕ
  outside = length b.firsts

  -- a set of nodes that no edge leaves has each node that X is like
  module _ (s : NodeSet) (none : NoneCrosses (links_of g) (λ e. true) s) where
    abbrev Joins : Edge → Type 0
    Joins edge = IsNodeIn b opens edge.to × (s (node_number g edge.from) ≡ s (node_number g edge.to))

    all : Each Joins (edges_in b opens)
    all =
        subst (Each Joins) (ap (λ (g : Graph). g.edges) is.made)
        (recursion_from_All Joins g.edges (All-from_get_or Joins g.edges no_edge
        (λ e l. ((All-get_or (IsEdgeIn b opens) g.edges e no_edge l is.edges).to, none e l refl))))

    -- where control can land
    landed_like : (node : Node) → IsNodeIn b opens node → has_cases opens node ≡ false
        → s (node_number g node) ≡ s outside
    landed_like (Block k) l quiet = sym (landed_block b opens Joins all k.0 l quiet).1
    landed_like (Landed k) l quiet = sym (landed_copy b opens Joins all k.0 l.0 l.1).1
    landed_like X l quiet = refl

    block_like : (k : ℕ) → k < outside → s k ≡ s outside
    block_like k l = elim (cases_Bool (jumps_in opens k)) [
      | inr e ↦ landed_like (block k) l e
      | inl e ↦
          let some = first_of (targets_in opens k)
          (targets_some opens k e (recursion_from_All (λ (o : Open). 1 ≤ length o.targets) opens is.targets)) in
          let c = cased b opens Joins all k l e some.first some.rest some.is in
          c.1 ∙ landed_like (lands_of b opens (Some some.first)) c.0 (lands_plain b opens some.first)
    ]

    like_outside : (v : ℕ) → v < node_numbers g → is_node g v ≡ true → s v ≡ s outside
    like_outside v h node = by (cases_lt v outside) (cases_lt outside v)
      where
        by : (v < outside) ⊎ (outside ≤ v) → (outside < v) ⊎ (v ≤ outside) → s v ≡ s outside
        by (inl l) m = block_like v l
        by (inr l) (inr m) = ap s (omega (arith, l, m))
        by (inr l) (inl m) =
            let j : ℕ = v - (outside + 1) in
            let same : v ≡ outside + 1 + j = omega (arith, m) in
            let copied : is_copied opens j ≡ true = rw (lt-ltb outside v m) at node in
            ap s same ∙ landed_like (copy j) (omega (arith, m, h), copied) refl

  pub connected : IsConnected (links_of g) (is_node g) (length g.blocks.firsts)
  connected = record {
    root = numbered g X tt;
    ends = λ e l.
        let h = All-get_or (IsEdgeIn b opens) g.edges e no_edge l is.edges in
        (numbered g _ h.from, numbered g _ h.to);
    joins = λ s none u v lu lv nu nv. like_outside s none u lu nu ∙ sym (like_outside s none v lv nv);
  }

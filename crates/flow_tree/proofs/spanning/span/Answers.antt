use Rattle.flow_tree.proofs.Common.{false, ℕ, ◌<◌, subst, rules, ◌≡◌, ◌+◌, length, true, refl, arith, sym, ◌∙◌, List, All, ext_get_or, rest, count_below, marked, graph_of, IsSpanningTree, true_or_false, reached_by, Join}
use Rattle.flow_tree.proofs.spanning.span.Goals as goal
use Rattle.flow_tree.proofs.spanning.span.Goals.{then-len-nodes-via-then-len-nodes, then-len-nodes-via-else-len-nodes+then-uncounted-nodes}
use Rattle.flow_tree.proofs.Check.{reached, is_tree, tree_taken, uncounted_many, from_root, tree_length}

pub returns-then-len-nodes-clause-exactly : goal.returns-then-len-nodes-clause-exactly
returns-then-len-nodes-clause-exactly c = (λ t. absurd (cc), λ s. absurd (wrong s))
  where
    wrong : IsSpanningTree (graph_of (length c.args.is_node.now) c.args.links.now) (marked c.args.is_node.now) (rest (marked c.args.counted.now)) → ⊥
    wrong s =
        let a = tree_length c.args.is_node.now c.args.links.now c.args.root c.args.counted.now c.deref.result.now c.in_ok-tree.tree.joins.items (reached_by c.in_ok-tree.tree) c.requires.nodes c.requires.root c.requires.counted (c.deref.ensures.value ∙ c.in_ok-weights.ensures) (from_root _ _ c.in_ok-tree.tree c.args.root c.in_ok-tree.ensures.root c.in_ok-tree.ensures.heaviest) c.in_ok-tree.ensures.whole s in
        let b = uncounted_many c.args.is_node.now c.args.links.now c.args.root c.args.counted.now c.deref.result.now c.in_ok-tree.tree.joins.items (reached_by c.in_ok-tree.tree) c.requires.nodes c.requires.root c.requires.counted (c.deref.ensures.value ∙ c.in_ok-weights.ensures) (from_root _ _ c.in_ok-tree.tree c.args.root c.in_ok-tree.ensures.root c.in_ok-tree.ensures.heaviest) c.count_marked.result c.count_marked.ensures.count in
        let d = s.size in
        let n = c.count_marked-nodes.ensures.count in
        let l = c.len.ensures in
        elim c.then-len-nodes.branch [
          | then-len-nodes-via-then-len-nodes w ↦ omega (arith, a, n)
          | then-len-nodes-via-else-len-nodes+then-uncounted-nodes w ↦ omega (arith, b, d, n, l)
        ]

pub returns-then-not-none_counted-clause-exactly : goal.returns-then-not-none_counted-clause-exactly
returns-then-not-none_counted-clause-exactly c = (λ t. absurd (cc), λ s. absurd (wrong s))
  where
    wrong : IsSpanningTree (graph_of (length c.args.is_node.now) c.args.links.now) (marked c.args.is_node.now) (rest (marked c.args.counted.now)) → ⊥
    wrong s =
        let a = tree_taken c.args.is_node.now c.args.links.now c.args.root c.args.counted.now c.deref.result.now c.in_ok-tree.tree.joins.items (reached_by c.in_ok-tree.tree) c.requires.nodes c.requires.root c.requires.counted (c.deref.ensures.value ∙ c.in_ok-weights.ensures) (from_root _ _ c.in_ok-tree.tree c.args.root c.in_ok-tree.ensures.root c.in_ok-tree.ensures.heaviest) c.in_ok-tree.ensures.whole s in
        let b : c.none_counted.result ≡ true = c.none_counted.ensures.1 (subst (λ (js : List Join). All (λ j. rest (marked c.args.counted.now) j.edge ≡ true) js) (sym c.deref-2.ensures.value) a) in
        true_or_false c.none_counted.result b c.if-not-none_counted.true

pub returns-clause-exactly : goal.returns-clause-exactly
returns-clause-exactly c = (λ t. tree, λ s. refl)
  where
    nodes : length c.in_ok-tree.tree.joins.items + 1 ≡ count_below (length c.args.is_node.now) (marked c.args.is_node.now)
    nodes = search rules

    tree : IsSpanningTree (graph_of (length c.args.is_node.now) c.args.links.now) (marked c.args.is_node.now) (rest (marked c.args.counted.now))
    tree =
        (is_tree c.args.is_node.now c.args.links.now c.args.root c.args.counted.now c.deref.result.now c.in_ok-tree.tree.joins.items (reached_by c.in_ok-tree.tree) c.requires.nodes c.requires.root c.requires.counted (c.deref.ensures.value ∙ c.in_ok-weights.ensures) (from_root _ _ c.in_ok-tree.tree c.args.root c.in_ok-tree.ensures.root c.in_ok-tree.ensures.heaviest) nodes
        (let b = uncounted_many c.args.is_node.now c.args.links.now c.args.root c.args.counted.now c.deref.result.now c.in_ok-tree.tree.joins.items (reached_by c.in_ok-tree.tree) c.requires.nodes c.requires.root c.requires.counted (c.deref.ensures.value ∙ c.in_ok-weights.ensures) (from_root _ _ c.in_ok-tree.tree c.args.root c.in_ok-tree.ensures.root c.in_ok-tree.ensures.heaviest) c.count_marked.result c.count_marked.ensures.count in let l = c.len.ensures in let n = c.count_marked-nodes.ensures.count in omega (arith, b, l, n))
        (subst (λ (js : List Join). All (λ j. rest (marked c.args.counted.now) j.edge ≡ true) js) c.deref-2.ensures.value (c.none_counted.ensures.0 c.if-not-none_counted.false))).1

pub returns-clause-edges : goal.returns-clause-edges
returns-clause-edges c =
    (is_tree c.args.is_node.now c.args.links.now c.args.root c.args.counted.now c.deref.result.now c.in_ok-tree.tree.joins.items (reached_by c.in_ok-tree.tree) c.requires.nodes c.requires.root c.requires.counted (c.deref.ensures.value ∙ c.in_ok-weights.ensures) (from_root _ _ c.in_ok-tree.tree c.args.root c.in_ok-tree.ensures.root c.in_ok-tree.ensures.heaviest) nodes
    (let b = uncounted_many c.args.is_node.now c.args.links.now c.args.root c.args.counted.now c.deref.result.now c.in_ok-tree.tree.joins.items (reached_by c.in_ok-tree.tree) c.requires.nodes c.requires.root c.requires.counted (c.deref.ensures.value ∙ c.in_ok-weights.ensures) (from_root _ _ c.in_ok-tree.tree c.args.root c.in_ok-tree.ensures.root c.in_ok-tree.ensures.heaviest) c.count_marked.result c.count_marked.ensures.count in let l = c.len.ensures in let n = c.count_marked-nodes.ensures.count in omega (arith, b, l, n))
    (subst (λ (js : List Join). All (λ j. rest (marked c.args.counted.now) j.edge ≡ true) js) c.deref-2.ensures.value (c.none_counted.ensures.0 c.if-not-none_counted.false))).0
  where
    nodes : length c.in_ok-tree.tree.joins.items + 1 ≡ count_below (length c.args.is_node.now) (marked c.args.is_node.now)
    nodes = search rules

pub returns-clause-reached : goal.returns-clause-reached
returns-clause-reached c =
    ext_get_or false c.in_ok-tree.tree.reached.items c.args.is_node.now c.in_ok-tree.ensures.grown.len (λ v l. reached c.args.is_node.now c.args.links.now c.args.root c.args.counted.now c.deref.result.now c.in_ok-tree.tree.joins.items (reached_by c.in_ok-tree.tree) c.requires.nodes c.requires.root c.requires.counted (c.deref.ensures.value ∙ c.in_ok-weights.ensures) (from_root _ _ c.in_ok-tree.tree c.args.root c.in_ok-tree.ensures.root c.in_ok-tree.ensures.heaviest) (search rules) v (subst (λ (n : ℕ). v < n) c.in_ok-tree.ensures.grown.len l))

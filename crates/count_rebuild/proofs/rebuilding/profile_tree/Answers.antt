use Rattle.count_rebuild.proofs.Common.{rules, ◌≡◌, ℕ, ◌<◌, ◌∙◌, Option, ap, arith, sym, length, map, subst, IfSome, length-map, rest, graph_of, marked, on, IsGrown, edges_of, Tree, is_some, false≢true, edge_seen, notes_seen, AreNodes, is_counted}
use Rattle.count_rebuild.proofs.Profile.{joins, length_links, rest_at, tree_from, tree_of}
use Rattle.count_rebuild.proofs.rebuilding.profile_tree.Goals as goal

pub span-requires-clause-nodes : goal.span-requires-clause-nodes
span-requires-clause-nodes c =
    joins c.args.n.now c.deref-2.result.now
    (subst (AreNodes (notes_seen c.args.n.now)) (sym c.deref-2.ensures.value) c.in_ok-is_node.ensures) c.args.links.now c.requires.links c.requires.notes

pub returns-in-Some-clause-tree : goal.returns-in-Some-clause-tree
returns-in-Some-clause-tree c =
    let nodes = subst (AreNodes (notes_seen c.args.n.now)) (sym c.deref-2.ensures.value) c.in_ok-is_node.ensures in
    let marks : c.deref-3.result.now ≡ map (λ edge. is_counted (edge_seen edge)) c.args.n.now.edges.items = search rules in
    let same : c.in-Some.tree.reached.items ≡ c.deref-2.result.now =
    subst (λ (o : Option Tree). IfSome o (λ t. t.reached.items ≡ c.deref-2.result.now)) c.in-Some.is
    c.in_ok-tree.ensures.reached in
    record {
      profile = record {
        tool = search rules;
        tree = tree_of c.args.n.now c.deref-2.result.now nodes c.args.links.now c.requires.links c.deref-3.result.now marks
            (c.in_ok-tree.ensures.exactly.0 (ap is_some c.in-Some.is));
      };
      grown = subst (λ (k : ℕ). IsGrown (graph_of k c.args.links.now) c.in-Some.tree) (sym (ap length same))
          (subst (λ (o : Option Tree). IfSome o (IsGrown (graph_of (length c.deref-2.result.now) c.args.links.now))) c.in-Some.is
          c.in_ok-tree.ensures.grown);
      reached = subst (AreNodes (notes_seen c.args.n.now)) (sym same) nodes;
      edges = λ e l.
          subst (λ (o : Option Tree). IfSome o (λ t. (e : ℕ) → e < length c.args.links.now
          → on (edges_of t) e ≡ rest (marked c.deref-3.result.now) e)) c.in-Some.is c.in_ok-tree.ensures.edges e
          (let links = length_links c.args.n.now c.args.links.now c.requires.links in
          let seen = length-map c.args.n.now.edges.items edge_seen in omega (arith, l, links, seen))
          ∙ rest_at c.args.n.now c.deref-2.result.now nodes c.args.links.now c.requires.links c.deref-3.result.now marks e;
    }

pub returns-clause-refused : goal.returns-clause-refused
returns-clause-refused c =
    let nodes = subst (AreNodes (notes_seen c.args.n.now)) (sym c.deref-2.ensures.value) c.in_ok-is_node.ensures in
    let marks : c.deref-3.result.now ≡ map (λ edge. is_counted (edge_seen edge)) c.args.n.now.edges.items = search rules in
    λ d profile. false≢true (sym (ap is_some c.in-None.is) ∙ c.in_ok-tree.ensures.exactly.1
    (tree_from c.args.n.now c.deref-2.result.now nodes c.args.links.now c.requires.links c.deref-3.result.now marks profile.tree))

use Rattle.flow_tree.proofs.Common.{rules, ◌≡◌, ℕ, inl, inr, true, [], ◌∷◌, ◌++◌, length, ap, refl, sym, ◌∙◌, subst, set, Contains, heap_items, length-set, cases_Bool, NodeSet, weight_in, graph_of, marked, and_also, IsHeaviest, crosses, only, far_end, Grows, true_or_false, IsAttached, candidate, edges_in}
use Rattle.flow_tree.proofs.Steps.{joined_by-push, nodes-push, heaviest_here, edges-push, held_again, marked_set, grows_more}
use Rattle.flow_tree.proofs.growth.WeighedGraph.join.Goals as goal

pub returns-in_default-clause-search : goal.returns-in_default-clause-search
returns-in_default-clause-search c = record {
  len = c.requires.search.len;
  grows = c.requires.search.grows;
  nodes = c.requires.search.nodes;
  candidates = c.in_default.ensures.heap;
  held = λ e l k.
      true_or_false _ k (rw c.deref.ensures.value at (c.in_default.ensures.none _ (c.requires.search.held e l k)));
}

pub returns-in_default-clause-whole : goal.returns-in_default-clause-whole
returns-in_default-clause-whole c = λ f e l. elim (cases_Bool _) [
  | inl k ↦ rw c.deref.ensures.value at (c.in_default.ensures.none _ (c.requires.search.held e l k))
  | inr k ↦ k
]

pub returns-clause-search : goal.returns-clause-search
returns-clause-search c = record {
  len = length-set c.args.search.now.tree.reached.items c.far_end-node.result true ∙ c.requires.search.len;
  grows = grows;
  nodes = rw (c.in_ok-push.ensures.items, nodes-push c.args.search.now.tree.joins.items _, edges-push _ _)
      (rw (joined_by-push _ (weight_in c.args.self.now.weights.now) _ _ _ _ c.requires.search.grows)
      (rw (c.requires.search.nodes, node) refl));
  candidates = c.in_ok-offer_all.ensures.heap;
  held = λ e l k. held_again (length c.args.self.now.rows.now) c.args.self.now.links.now c.args.self.now.weights.now c.args.self.now.rows.now (marked c.args.search.now.tree.reached.items)
      (heap_items c.args.search.now.heap) (heap_items c.next_crossing.new.heap) (heap_items c.offer_all.new.heap) c.in-Some.next.edge c.far_end-node.result
      node across c.requires.search.held
      (λ d h k. c.in-Some.ensures.taken.others d h (before d.edge k))
      c.in_ok-offer_all.ensures.kept c.requires.ends attached e l
      (subst (λ (u : NodeSet). crosses (graph_of (length c.args.self.now.rows.now) c.args.self.now.links.now) u e ≡ true) marks k);
}
  where
    before : (e : ℕ) → crosses (graph_of (length c.args.self.now.rows.now) c.args.self.now.links.now) (marked c.args.search.now.tree.reached.items) e ≡ true → crosses (graph_of (length c.args.self.now.rows.now) c.args.self.now.links.now) (marked c.deref.result.now) e ≡ true
    before e k = rw c.deref.ensures.value k

    across : crosses (graph_of (length c.args.self.now.rows.now) c.args.self.now.links.now) (marked c.args.search.now.tree.reached.items) c.in-Some.next.edge ≡ true
    across = rw c.deref.ensures.value at c.in-Some.ensures.taken.across

    node : c.far_end-node.result ≡ far_end (graph_of (length c.args.self.now.rows.now) c.args.self.now.links.now) (marked c.args.search.now.tree.reached.items) c.in-Some.next.edge
    node = rw c.deref-2.ensures.value at c.far_end-node.ensures

    marks : marked (set c.args.search.now.tree.reached.items c.far_end-node.result true) ≡ and_also (marked c.args.search.now.tree.reached.items) c.far_end-node.result
    marks = marked_set c.args.search.now.tree.reached.items c.far_end-node.result (search rules)

    edges : edges_in c.push.new.self.items ≡ edges_in c.args.search.now.tree.joins.items ++ c.in-Some.next.edge ∷ []
    edges = ap edges_in c.in_ok-push.ensures.items ∙ edges-push c.args.search.now.tree.joins.items _

    heaviest : IsHeaviest (graph_of (length c.args.self.now.rows.now) c.args.self.now.links.now) (weight_in c.args.self.now.weights.now) (marked c.args.search.now.tree.reached.items) c.in-Some.next.edge
    heaviest = heaviest_here (length c.args.self.now.rows.now) c.args.self.now.links.now c.args.self.now.weights.now (marked c.args.search.now.tree.reached.items) (heap_items c.args.search.now.heap) c.in-Some.next c.args.self.now.weighed c.requires.search.candidates.1 c.in-Some.ensures.taken.there across c.requires.search.held
        (λ d h k. c.in-Some.ensures.taken.greatest d h (before d.edge k))

    grows : Grows (graph_of (length c.args.self.now.rows.now) c.args.self.now.links.now) (weight_in c.args.self.now.weights.now) (only c.args.search.now.tree.root) (edges_in c.push.new.self.items) (marked (set c.args.search.now.tree.reached.items c.far_end-node.result true))
    grows = rw (edges, marks, node) (grows_more _ _ _ _ _ _ c.requires.search.grows heaviest)

    attached : (e : ℕ) → IsAttached c.args.self.now.rows.now c.far_end-node.result e → crosses (graph_of (length c.args.self.now.rows.now) c.args.self.now.links.now) (and_also (marked c.args.search.now.tree.reached.items) c.far_end-node.result) e ≡ true → Contains (heap_items c.offer_all.new.heap) (candidate c.args.self.now.weights.now e)
    attached e h k = c.in_ok-offer_all.ensures.added e (rw c.deref-3.ensures.value (h c.index-self-node.result))
        (subst (λ (u : NodeSet). crosses (graph_of (length c.args.self.now.rows.now) c.args.self.now.links.now) u e ≡ true) (sym (ap marked c.deref-4.ensures.value ∙ marks)) k)

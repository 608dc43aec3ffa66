use Rattle.flow_tree.proofs.Common.{rules, ◌≡◌, refl, true, length, ap, sym, ◌∙◌, subst, set, heap_items, NodeSet, marked, graph_of, crosses, only}
use Rattle.flow_tree.proofs.Steps.{held_first, begun_marks}
use Rattle.flow_tree.proofs.growth.WeighedGraph.begin.Goals as goal

pub returns-clause-search : goal.returns-clause-search
returns-clause-search c = record {
  len = search rules;
  grows = rw c.new.ensures.items marks;
  nodes = rw c.new.ensures.items refl;
  candidates = c.in_ok-offer_all.ensures.heap;
  held = λ e l k. held_first (length c.args.self.now.rows.now) c.args.root c.args.self.now.links.now c.args.self.now.weights.now c.args.self.now.rows.now (heap_items c.offer_all.new.heap) c.requires.ends
      (λ e h k. c.in_ok-offer_all.ensures.added e
      (rw c.deref.ensures.value (h c.index-self-root.result))
      (subst (λ (u : NodeSet). crosses (graph_of (length c.args.self.now.rows.now) c.args.self.now.links.now) u e ≡ true) (sym (ap marked c.deref-2.ensures.value ∙ marks)) k))
      e l (subst (λ (u : NodeSet). crosses (graph_of (length c.args.self.now.rows.now) c.args.self.now.links.now) u e ≡ true) marks k);
}
  where
    marks : marked (set c.in_ok-reached.reached.items c.args.root true) ≡ only c.args.root
    marks = begun_marks (length c.args.self.now.rows.now) c.args.root c.in_ok-reached.reached.items (search rules) (search rules)

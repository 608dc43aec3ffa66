use Rattle.flow_tree.proofs.Common.{arith, rules, ◌≡◌, inl, inr, length, false, ap, common_steps, graph_of, marked, crosses, IsReal, Candidate, true_or_false}
use Rattle.flow_tree.proofs.Heaps.{popped, came_from, all_left}
use Rattle.flow_tree.proofs.growth.WeighedGraph.next_crossing.Goals as goal

pub returns-then-is_crossing-clause-heap : goal.returns-then-is_crossing-clause-heap
returns-then-is_crossing-clause-heap c = (search rules, all_left (IsReal c.args.self.now.weights.now) _ _ _ c.in-Some.ensures.permutation c.loop-top.invariant.candidates.1)

pub returns-then-is_crossing-clause-taken : goal.returns-then-is_crossing-clause-taken
returns-then-is_crossing-clause-taken c = record {
  there = search rules;
  across = search rules;
  greatest = λ x h k.
      let there = c.loop-top.invariant.kept x h k in
      grind (arith, common_steps, there);
  others = λ x h k. elim (popped _ _ _ c.in-Some.ensures.permutation x (c.loop-top.invariant.kept x h k)) [
    | inl top ↦ inr (ap (λ (x : Candidate). x.edge) top)
    | inr left ↦ inl left
  ];
}

pub loop-top-preserved : goal.loop-top-preserved
loop-top-preserved c = record {
  candidates = (search rules, all_left (IsReal c.args.self.now.weights.now) _ _ _ c.in-Some.ensures.permutation c.loop-top.invariant.candidates.1);
  came = λ x h. c.loop-top.invariant.came x (came_from _ _ _ c.in-Some.ensures.permutation x h);
  kept = λ x h k. elim (popped _ _ _ c.in-Some.ensures.permutation x (c.loop-top.invariant.kept x h k)) [
    | inl top ↦ true_or_false _ (rw top at k) not_top
    | inr left ↦ left
  ];
}
  where
    not_top : crosses (graph_of (length c.args.marks.now) c.args.self.now.links.now) (marked c.args.marks.now) c.in-Some.top.edge ≡ false
    not_top = search rules

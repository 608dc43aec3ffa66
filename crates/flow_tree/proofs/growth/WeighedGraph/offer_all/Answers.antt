use Rattle.flow_tree.proofs.Common.{rules, inl, inr, ℕ, sym, subst, List, Contains, take_all}
use Rattle.flow_tree.proofs.Heaps.{taken_cases}
use Rattle.flow_tree.proofs.growth.WeighedGraph.offer_all.Goals as goal

pub loop-edge-preserved : goal.loop-edge-preserved
loop-edge-preserved c = record {
  candidates = c.in_ok-offer.ensures.heap;
  kept = λ x h. c.in_ok-offer.ensures.kept x (c.loop-edge.invariant.kept x h);
  added = λ e h k. elim (taken_cases c.args.row.now c.loop-edge.edge-index e (search rules) h) [
    | inl same ↦ rw same (c.in_ok-offer.ensures.added (rw same at k))
    | inr before ↦ c.in_ok-offer.ensures.kept _ (c.loop-edge.invariant.added e before k)
  ];
}

pub returns-clause-added : goal.returns-clause-added
returns-clause-added c = λ e h. c.loop-edge.invariant.added e (let k = take_all c.loop-edge.edge-index c.args.row.now c.loop-edge-test.false in subst (λ (xs : List ℕ). Contains xs e) (sym k) h)

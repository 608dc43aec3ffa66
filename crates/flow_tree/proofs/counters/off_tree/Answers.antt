use Rattle.flow_tree.proofs.Common.{rules, ◌<◌, ◌∙◌, List, length, arith, ap, set, false, get_or, marked, Join}
use Rattle.flow_tree.proofs.Steps.{off_more}
use Rattle.flow_tree.proofs.counters.off_tree.Goals as goal

pub loop-join-preserved : goal.loop-join-preserved
loop-join-preserved c = record {
  len = search rules;
  value = λ e l.
      ap (λ (js : List Join). marked (set c.loop-join.off.items (get_or js c.loop-join.join-index none).edge false) e) c.deref-join-items.ensures.value
      ∙ off_more c.loop-join.off.items c.args.tree.now.joins.items c.loop-join.join-index e none there
      (let k = c.requires c.loop-join.join-index none there in omega (arith, k)) (c.loop-join.invariant.value e l);
}
  where
    none : Join
    none = record { edge = 0; node = 0 }

    there : c.loop-join.join-index < length c.args.tree.now.joins.items
    there = search rules

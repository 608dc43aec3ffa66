use Rattle.flow_rebuild.proofs.Common.{rules, ◌<◌, ◌^◌, length, arith, get_or, ℤ, pos, nat_abs, All-set, Join}
use Rattle.flow_rebuild.proofs.Sums.{abs_set, cleared_more, cleared_on}
use Rattle.flow_rebuild.proofs.cleared.Goals as goal

pub loop-join-preserved : goal.loop-join-preserved
loop-join-preserved c = record {
  len = search rules;
  small = All-set (λ (z : ℤ). nat_abs z < 2 ^ 64) c.loop-join.cleared.items _ (pos 0) (omega arith) c.loop-join.invariant.small;
  less = omega (arith, abs_set c.loop-join.cleared.items (get_or c.args.joins.now c.loop-join.join-index none).edge (pos 0) there, c.loop-join.invariant.less);
  kept = cleared_more c.args.values.now c.loop-join.cleared.items c.args.joins.now c.loop-join.join-index none c.loop-join-test.true there c.loop-join.invariant.kept;
  unset = cleared_on c.loop-join.cleared.items c.args.joins.now c.loop-join.join-index none c.loop-join-test.true there c.loop-join.invariant.unset;
}
  where
    none : Join
    none = record { edge = 0; node = 0 }

    there : (get_or c.args.joins.now c.loop-join.join-index none).edge < length c.loop-join.cleared.items
    there = omega (arith, c.requires.joins c.loop-join.join-index none c.loop-join-test.true, c.loop-join.invariant.len)

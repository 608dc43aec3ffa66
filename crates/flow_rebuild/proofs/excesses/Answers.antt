use Rattle.flow_rebuild.proofs.Common.{rules, ◌≡◌, ◌+◌, ◌<◌, length, arith, ap, nat_abs, w128, link_at, int_at, passed}
use mir.Val.{to_z, of_z}
use Rattle.flow_rebuild.proofs.Sums.{passed_excess, abs_passed, abs_take_more, abs_take, small_at, back_small}
use Rattle.flow_rebuild.proofs.excesses.Goals as goal

pub pass-requires-clause-small : goal.pass-requires-clause-small
pass-requires-clause-small c =
    let v = small_at c.args.values.now c.loop-e.e in
    let m = abs_take_more c.args.values.now c.loop-e.e (omega arith) in
    let d = ap nat_abs (back_small (int_at c.args.values.now c.loop-e.e) (omega (arith, v, c.requires.small))) in
    omega (arith, d, m, abs_take c.args.values.now (c.loop-e.e + 1), c.loop-e.invariant.small, c.requires.small)

pub loop-e-preserved : goal.loop-e-preserved
loop-e-preserved c = record {
  len = search rules;
  excess = λ u l. passed_excess c.args.nodes c.args.links.now c.args.values.now c.args.start c.args.end c.loop-e.e u c.loop-e.excess.items c.pass.new.excess.items there to from (c.loop-e.invariant.excess u l);
  small =
      let p = abs_passed c.loop-e.excess.items c.pass.new.excess.items (link_at c.args.links.now c.loop-e.e) (int_at c.args.values.now c.loop-e.e) there to from in
      let m = abs_take_more c.args.values.now c.loop-e.e (omega arith) in omega (arith, c.loop-e.invariant.small, p, m);
}
  where
    to : (link_at c.args.links.now c.loop-e.e).to < length c.loop-e.excess.items
    to = search rules

    from : (link_at c.args.links.now c.loop-e.e).from < length c.loop-e.excess.items
    from = search rules

    back : to_z w128 (of_z w128 (int_at c.args.values.now c.loop-e.e)) ≡ int_at c.args.values.now c.loop-e.e
    back = back_small (int_at c.args.values.now c.loop-e.e) (omega (arith, small_at c.args.values.now c.loop-e.e, c.requires.small))

    there : c.pass.new.excess.items ≡ passed c.loop-e.excess.items (link_at c.args.links.now c.loop-e.e) (int_at c.args.values.now c.loop-e.e)
    there = rw back at c.pass.ensures

pub returns-clause-small : goal.returns-clause-small
returns-clause-small c = omega (arith, c.loop-e.invariant.small, abs_take c.args.values.now c.loop-e.e)

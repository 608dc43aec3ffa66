use Rattle.flow_rebuild.proofs.Common.{rules, ◌≡◌, ◌≤◌, ◌+◌, ◌*◌, List, length, arith, ap, ◌∙◌, ℤ, pos, nat_abs, get_or-set_other, All-from_get_or, All-set, iter_rest, graph_of, link_at, on, true_or_false, excess, abs_sum, int_at, carries, edges_of, linked_nodes}
use Rattle.flow_rebuild.proofs.Peel.{peel_step, on_longer, the_flow, none_left, on_last, node_inside, reached_below, edge_inside, start_peeled, peel_small}
use Rattle.flow_rebuild.proofs.Sums.{abs_bound, abs_carries, small_at}
use Rattle.flow_rebuild.proofs.rebuild.Goals as goal

pub cleared-requires-clause-joins : goal.cleared-requires-clause-joins
cleared-requires-clause-joins c = rw (c.deref.ensures.value, c.requires.values) c.requires.tree.inside

pub excesses-requires-clause-small : goal.excesses-requires-clause-small
excesses-requires-clause-small c = abs_bound c.deref-2.result.now (search rules) (search rules)

pub bounds-links-join : goal.bounds-links-join
bounds-links-join c = edge_inside _ _ (linked_nodes c.args.tree.now.reached.items c.args.links.now c.requires.ends) (rw c.in-Some.ensures.steps at c.loop-join.invariant.peeled)

pub offset_bounds-links-join : goal.offset_bounds-links-join
offset_bounds-links-join c = let k = edge_inside _ _ (linked_nodes c.args.tree.now.reached.items c.args.links.now c.requires.ends) (rw c.in-Some.ensures.steps at c.loop-join.invariant.peeled) in omega (arith, k)

pub settle-requires : goal.settle-requires
settle-requires c =
    let ok = linked_nodes c.args.tree.now.reached.items c.args.links.now c.requires.ends in
    let h = rw c.in-Some.ensures.steps at c.loop-join.invariant.peeled in
    let inside = edge_inside _ _ ok h in
    let ends = ok c.in-Some.join.now.edge (record { from = 0; to = 0 }) inside in
    record {
      edge = omega (arith, inside, h.values_len);
      from = omega (arith, ends.0, h.excess_len);
      to = omega (arith, ends.1, h.excess_len);
      node = omega (arith, node_inside _ _ ok h, h.excess_len);
      small = omega (arith, abs_bound c.args.values.now (search rules) c.requires.small, c.loop-join.invariant.small);
    }

pub loop-join-preserved : goal.loop-join-preserved
loop-join-preserved c = record {
  peeled = rw (c.settle.ensures.values, c.settle.ensures.excess) (peel_step _ _ (linked_nodes c.args.tree.now.reached.items c.args.links.now c.requires.ends) (rw c.in-Some.ensures.steps at c.loop-join.invariant.peeled));
  small =
      let k = peel_small _ _ (linked_nodes c.args.tree.now.reached.items c.args.links.now c.requires.ends) (rw c.in-Some.ensures.steps at c.loop-join.invariant.peeled) in
      omega (arith, k, ap abs_sum c.settle.ensures.excess, c.loop-join.invariant.small);
  values =
      let edge = c.in-Some.join.now.edge in let node = c.in-Some.join.now.node in
      let moved = int_at c.loop-join.excess.items node in
      let k = small_at c.loop-join.excess.items node in let l = abs_carries (link_at c.args.links.now edge) node moved in
      rw c.settle.ensures.values (All-set (λ (z : ℤ). nat_abs z ≤ 2 * abs_sum c.args.values.now + 2) c.loop-join.flow.items edge
      (carries (link_at c.args.links.now edge) node moved) (omega (arith, k, l, c.loop-join.invariant.small)) c.loop-join.invariant.values);
  inside = λ e o. c.loop-join.invariant.inside e (on_longer (iter_rest c.next.new.self.iter) c.in-Some.join.now (iter_rest c.loop-join.join-iterator.iter) e c.in-Some.ensures.steps o);
  agrees = λ e o. ap (λ xs. int_at xs e) c.settle.ensures.values
      ∙ get_or-set_other c.loop-join.flow.items c.in-Some.join.now.edge e _ (pos 0)
      (λ k. true_or_false (on (edges_of c.args.tree.now) e)
      (ap (on (edges_of c.args.tree.now)) k ∙ c.loop-join.invariant.inside c.in-Some.join.now.edge (on_last (iter_rest c.next.new.self.iter) c.in-Some.join.now (iter_rest c.loop-join.join-iterator.iter) c.in-Some.ensures.steps)) o)
      ∙ c.loop-join.invariant.agrees e o;
}

pub loop-join-init : goal.loop-join-init
loop-join-init c = record {
  peeled = start_peeled (length c.args.tree.now.reached.items) c.len.result c.args.links.now c.args.tree.now c.args.start c.args.end _ c.in_ok-flow.flow.items c.in_ok-excess.excess.items (search rules) left c.requires.tree (λ e l. c.requires.ends e _ l) c.requires.start c.requires.end
      (c.in_ok-flow.ensures.len ∙ c.requires.values) c.in_ok-excess.ensures.len
      (λ e o. c.in_ok-flow.ensures.unset e (rw c.deref.ensures.value o))
      (λ u l. c.in_ok-excess.ensures.excess u l ∙ ap (λ (xs : List ℤ). excess (graph_of c.len.result c.args.links.now) c.args.start c.args.end (int_at xs) u) c.deref-2.ensures.value);
  small =
      let l : abs_sum c.deref-2.result.now ≡ abs_sum c.in_ok-flow.flow.items = ap abs_sum c.deref-2.ensures.value in
      omega (arith, c.in_ok-excess.ensures.small, l, c.in_ok-flow.ensures.less);
  values = All-from_get_or (λ (z : ℤ). nat_abs z ≤ 2 * abs_sum c.args.values.now + 2) c.in_ok-flow.flow.items (pos 0)
      (λ e l. omega (arith, small_at c.in_ok-flow.flow.items e, c.in_ok-flow.ensures.less));
  inside = λ e o. rw left at o;
  agrees = λ e o. c.in_ok-flow.ensures.kept e (rw c.deref.ensures.value o);
}
  where
    left : iter_rest c.into_iter-join-iterator.result.iter ≡ c.args.tree.now.joins.items
    left = search rules

pub returns-clause-flow : goal.returns-clause-flow
returns-clause-flow c = the_flow (length c.args.tree.now.reached.items) c.args.links.now c.args.tree.now c.args.start c.args.end c.args.values.now c.loop-join.flow.items (linked_nodes c.args.tree.now.reached.items c.args.links.now c.requires.ends) c.requires.tree
    (reached_below (length c.args.tree.now.reached.items) c.args.links.now c.args.tree.now c.args.start c.requires.tree c.requires.start) (reached_below (length c.args.tree.now.reached.items) c.args.links.now c.args.tree.now c.args.end c.requires.tree c.requires.end)
    (none_left _ _ _ _ _ (iter_rest c.loop-join.join-iterator.iter) _ _ (search rules) c.loop-join.invariant.peeled) c.loop-join.invariant.agrees

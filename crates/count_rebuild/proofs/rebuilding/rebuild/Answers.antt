use Rattle.count_rebuild.proofs.Common.{rules, ◌≡◌, ◌∙◌, length, map, ap, subst, sym, nat_abs, length-map, IfErr-weaker, IfOk-weaker, err_from_is_err_and, edge_seen, notes_seen, dump_seen, int_at, IsRefused, IsFlowTo, cell_value, link_of, AreWhole, IsBad}
use Rattle.count_rebuild.specs.Answers.{AreCounts}
use Rattle.count_rebuild.proofs.Profile.{joins, length_links, node_marked}
use Rattle.count_rebuild.proofs.TheFlow.{flow_to, impossible, stands_inside}
use Rattle.count_rebuild.proofs.Values.{small_counts, whole_flow}
use Rattle.count_rebuild.proofs.rebuilding.rebuild.Goals as goal

pub returns-in_err-keep_tool-clause-refused : goal.returns-in_err-keep_tool-clause-refused
returns-in_err-keep_tool-clause-refused c =
    let p = err_from_is_err_and c.from_residual.result c.from_residual.ensures.1 in
    rw p.1 (subst (IsRefused (notes_seen c.args.n.now) (dump_seen c.args.d.now)) (sym p.2)
    (c.in_err-keep_tool.ensures.refused (dump_seen c.args.d.now)))

pub returns-in_err-tree-clause-refused : goal.returns-in_err-tree-clause-refused
returns-in_err-tree-clause-refused c =
    let p = err_from_is_err_and c.from_residual-in_err-tree.result c.from_residual-in_err-tree.ensures.1 in
    rw p.1 (subst (IsRefused (notes_seen c.args.n.now) (dump_seen c.args.d.now)) (sym p.2)
    (c.in_err-tree.ensures.refused (dump_seen c.args.d.now)))

pub rebuild-requires-clause-ends : goal.rebuild-requires-clause-ends
rebuild-requires-clause-ends c =
    joins c.args.n.now c.in_ok-tree.tree.reached.items c.in_ok-tree.ensures.tree.reached c.deref-5.result.now (search rules)
    c.requires.notes

pub rebuild-requires-clause-end : goal.rebuild-requires-clause-end
rebuild-requires-clause-end c =
    let inside = stands_inside c.args.n.now c.args.d.now c.in_ok-node.node c.requires.notes c.in_ok-node.ensures.stands in
    node_marked c.args.n.now c.in_ok-tree.tree.reached.items c.in_ok-tree.ensures.tree.reached c.in_ok-node.node inside.0 inside.1

pub returns-clause-counts : goal.returns-clause-counts
returns-clause-counts c =
    let n = c.args.n.now in
    let links : c.deref-5.result.now ≡ map (λ edge. link_of (edge_seen edge)) n.edges.items = search rules in
    let values : c.deref-6.result.now ≡ map (λ edge. cell_value n.version c.args.d.now.cells.items (edge_seen edge).cell) n.edges.items =
    search rules in
    let is = flow_to n c.args.d.now c.deref-5.result.now c.deref-2.result.now c.in_ok-tree.tree c.in_ok-node.node
    c.deref-6.result.now c.in_ok-flow.flow.items links c.in_ok-tree.ensures.tree values c.in_ok-flow.ensures.flow in
    let many : length c.deref-7.result.now ≡ length (notes_seen n).edges =
    ap length c.deref-7.ensures.value ∙ c.in_ok-flow.ensures.len ∙ length_links n c.deref-5.result.now links
    ∙ sym (length-map n.edges.items edge_seen) in
    IfOk-weaker c.whole_numbers.result (λ counts. AreWhole c.deref-7.result.now counts.items)
    (λ counts. AreCounts (notes_seen n) (dump_seen c.args.d.now) counts.items) (λ counts h. record {
      node = c.in_ok-node.node;
      stands = c.in_ok-node.ensures.stands;
      len = ap length h.are ∙ length-map c.deref-7.result.now nat_abs ∙ many;
      flow = subst (IsFlowTo (notes_seen n) (dump_seen c.args.d.now) c.in_ok-node.node)
          (ap int_at (sym c.deref-7.ensures.value) ∙ whole_flow c.deref-7.result.now counts.items h.are h.whole) is;
      small = small_counts c.deref-7.result.now counts.items h.are h.whole h.small;
    })
    c.whole_numbers.ensures.counts

pub returns-clause-refused : goal.returns-clause-refused
returns-clause-refused c =
    let n = c.args.n.now in
    let links : c.deref-5.result.now ≡ map (λ edge. link_of (edge_seen edge)) n.edges.items = search rules in
    let values : c.deref-6.result.now ≡ map (λ edge. cell_value n.version c.args.d.now.cells.items (edge_seen edge).cell) n.edges.items =
    search rules in
    let is = flow_to n c.args.d.now c.deref-5.result.now c.deref-2.result.now c.in_ok-tree.tree c.in_ok-node.node
    c.deref-6.result.now c.in_ok-flow.flow.items links c.in_ok-tree.ensures.tree values c.in_ok-flow.ensures.flow in
    let many : length c.deref-7.result.now ≡ length (notes_seen n).edges =
    ap length c.deref-7.ensures.value ∙ c.in_ok-flow.ensures.len ∙ length_links n c.deref-5.result.now links
    ∙ sym (length-map n.edges.items edge_seen) in
    IfErr-weaker c.whole_numbers.result (IsBad c.deref-7.result.now) (IsRefused (notes_seen n) (dump_seen c.args.d.now))
    (impossible (notes_seen n) (dump_seen c.args.d.now) c.in_ok-node.node c.deref-7.result.now c.in_ok-node.ensures.stands
    (subst (IsFlowTo (notes_seen n) (dump_seen c.args.d.now) c.in_ok-node.node) (ap int_at (sym c.deref-7.ensures.value)) is) many)
    c.whole_numbers.ensures.refused

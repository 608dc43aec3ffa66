use Rattle.count_rebuild.proofs.Common.{◌≡◌, ℕ, ◌+◌, ◌*◌, ◌<◌, ◌||◌, ◌∙◌, Bool, List, ◌++◌, nat_le, length, map, take, drop, subst, sym, ap, rules, list_any, range_with_len, marked, edge_seen, notes_seen, range_seen, AreNodes, ends_at, lies_at}
use Rattle.eel_base.specs.declared.range.Range as declared_range
use Rattle.notes.specs.declared.note.NoteEdge as declared_edge
use Rattle.count_rebuild.proofs.NodeMarks.{nodes_are, written}
use Rattle.count_rebuild.proofs.nodes.nodes.Goals as goal

pub returns : goal.returns
returns c =
    let first = c.in_ok-nodes.nodes.items in
    let edges = c.mark_edges.new.nodes in
    let all = c.mark_ranges.new.nodes in
    let first_len : length first ≡ c.in_ok-nodes.nodes.len = search rules in
    let edges_len : length edges ≡ length first = c.mark_edges.ensures.len ∙ ap length c.deref_mut.ensures.value in
    let back = written edges first c.in_ok-nodes.nodes.len (edges_len ∙ first_len) first_len in
    let were : c.deref_mut-2.result.now ≡ edges = c.deref_mut-2.ensures.value ∙ back in
    let all_len : length all ≡ length edges = c.mark_ranges.ensures.len ∙ ap length were in
    let whole = ap (λ (old : List Bool). take c.in_ok-nodes.nodes.len (all ++ drop (length all) old)) back
    ∙ written all edges c.in_ok-nodes.nodes.len (all_len ∙ edges_len ∙ first_len) (edges_len ∙ first_len) in
    let count : c.len.result ≡ length c.args.n.now.blocks.items = search rules in
    subst (AreNodes (notes_seen c.args.n.now)) (sym whole)
    (nodes_are c.args.n.now first edges all
    (c.in_ok-nodes.ensures ∙ ap (λ (k : ℕ). map (λ number. nat_le number k) (range_with_len 0 (2 * k + 1))) count)
    edges_len
    (λ node l.
    c.mark_edges.ensures.marks node (subst (λ (marks : List Bool). node < length marks) (sym c.deref_mut.ensures.value) l)
    ∙ ap (λ (marks : List Bool). marked marks node || list_any (λ edge. ends_at node (edge_seen edge)) c.deref.result.now)
    c.deref_mut.ensures.value
    ∙ ap (λ (rows : List declared_edge.NoteEdge). marked first node || list_any (λ edge. ends_at node (edge_seen edge)) rows)
    c.deref.ensures.value)
    all_len
    (λ node l.
    c.mark_ranges.ensures.marks node (subst (λ (marks : List Bool). node < length marks) (sym were) l)
    ∙ ap (λ (marks : List Bool). marked marks node || list_any (λ range. lies_at node (range_seen range)) c.deref-2.result.now)
    were
    ∙ ap (λ (rows : List declared_range.Range). marked edges node || list_any (λ range. lies_at node (range_seen range)) rows)
    c.deref-2.ensures.value))

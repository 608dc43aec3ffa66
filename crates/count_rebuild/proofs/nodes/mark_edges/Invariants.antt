use Rattle.count_rebuild.proofs.Common.{◌≡◌, ℕ, ◌<◌, ◌||◌, length, take, list_any, marked, edge_seen, ends_at}
use Rattle.count_rebuild.proofs.nodes.mark_edges.Given as goal

abbrev pub invariant-loop-edge : goal.invariant-loop-edge
invariant-loop-edge l = record {
  len : length l.nodes ≡ length l.initial.nodes;
  marks : (node : ℕ) → node < length l.initial.nodes
      → marked l.nodes node
      ≡ (marked l.initial.nodes node || list_any (λ edge. ends_at node (edge_seen edge)) (take l.edge-index l.edges));
}

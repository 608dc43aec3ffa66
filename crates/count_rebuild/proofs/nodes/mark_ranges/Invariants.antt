use Rattle.count_rebuild.proofs.Common.{◌≡◌, ℕ, ◌<◌, ◌||◌, length, take, list_any, marked, range_seen, lies_at}
use Rattle.count_rebuild.proofs.nodes.mark_ranges.Given as goal

abbrev pub invariant-loop-range : goal.invariant-loop-range
invariant-loop-range l = record {
  len : length l.nodes ≡ length l.initial.nodes;
  marks : (node : ℕ) → node < length l.initial.nodes
      → marked l.nodes node
      ≡ (marked l.initial.nodes node || list_any (λ range. lies_at node (range_seen range)) (take l.range-index l.ranges));
}

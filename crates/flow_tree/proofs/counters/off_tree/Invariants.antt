use Rattle.flow_tree.proofs.Common.{◌≡◌, ◌<◌, ℕ, length, take, not, marked, on, edges_in}
use Rattle.flow_tree.proofs.counters.off_tree.Given as goal

abbrev pub invariant-loop-join : goal.invariant-loop-join
invariant-loop-join l = record {
  len : length l.off.items ≡ l.edges;
  value : (e : ℕ) → e < l.edges → marked l.off.items e ≡ not (on (edges_in (take l.join-index l.tree.joins.items)) e);
}

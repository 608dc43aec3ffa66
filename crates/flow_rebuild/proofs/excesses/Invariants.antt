use Rattle.flow_rebuild.proofs.Common.{◌≡◌, ◌≤◌, ◌<◌, ◌+◌, ◌*◌, ℕ, length, take, graph_of, excess_below, int_at, abs_sum}
use Rattle.flow_rebuild.proofs.excesses.Given as goal

abbrev pub invariant-loop-e : goal.invariant-loop-e
invariant-loop-e l = record {
  len : length l.excess.items ≡ l.nodes;
  excess : (u : ℕ) → u < l.nodes → int_at l.excess.items u ≡ excess_below (graph_of l.nodes l.links) l.e l.start l.end (int_at l.values) u;
  small : abs_sum l.excess.items ≤ 2 * abs_sum (take l.e l.values) + 2;
}

use Rattle.flow_tree.proofs.Common.{◌≡◌, ◌+◌, length, IsSearch}
use Rattle.flow_tree.proofs.growth.grow.Given as goal

abbrev pub invariant-loop : goal.invariant-loop
invariant-loop l = record {
  search : IsSearch l.nodes l.links l.weights l.search;
  root : l.search.tree.root ≡ l.root;
  count : length l.search.tree.joins.items + 1 ≡ l.counter;
}

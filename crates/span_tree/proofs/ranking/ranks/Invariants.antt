use Rattle.span_tree.proofs.Common.{◌≡◌, map, below, rank_of}
use Rattle.span_tree.proofs.ranking.ranks.Given as goal

abbrev pub invariant-loop-number : goal.invariant-loop-number
invariant-loop-number l = l.ranks.items ≡ map (rank_of l.graph l.weights) (below l.number)

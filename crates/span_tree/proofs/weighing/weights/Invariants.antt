use Rattle.span_tree.proofs.Common.{◌≡◌, take, weights_of}
use Rattle.span_tree.proofs.weighing.weights.Given as goal

abbrev pub invariant-loop-edge : goal.invariant-loop-edge
invariant-loop-edge l = l.weights.items ≡ weights_of l.blocks.blocks (take l.edge-index l.edges)

use Rattle.span_tree.proofs.Ranked.{weights_most}
use Rattle.span_tree.proofs.weighing.weights.Goals as goal

pub returns-clause-most : goal.returns-clause-most
returns-clause-most c = rw c.loop-edge.invariant (weights_most c.args.blocks.now.blocks _)

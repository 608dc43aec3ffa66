use Rattle.span_tree.specs.Bounds.{AreBounds}
use Rattle.span_tree.proofs.loops.loop_bounds.Given as goal

abbrev pub invariant-loop-block : goal.invariant-loop-block
invariant-loop-block l = AreBounds l.blocks.blocks l.block l.bounds.begins.items l.bounds.ends.items

use Rattle.span_tree.proofs.loops.loop_bounds.Goals as goal

pub put_loop-requires-clause-bounds : goal.put_loop-requires-clause-bounds
put_loop-requires-clause-bounds c = c.loop-block.invariant

pub loop-block-preserved : goal.loop-block-preserved
loop-block-preserved c = c.put_loop.ensures

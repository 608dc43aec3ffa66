use Rattle.cfg_blocks.specs.Private.{block_end_in}
use Rattle.cfg_blocks.proofs.Below.{map_below_push}
use Rattle.cfg_blocks.proofs.list.block_ends.Goals as goal

pub loop-block-preserved : goal.loop-block-preserved
loop-block-preserved c =
    map_below_push _ (block_end_in c.args.word_ends.now c.args.firsts.now) _ _ _ c.in_ok-push.ensures.items c.block_end.ensures
    c.loop-block.invariant

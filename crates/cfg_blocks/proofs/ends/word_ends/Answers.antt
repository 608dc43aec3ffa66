use Rattle.cfg_blocks.specs.Ends.{end_at}
use Rattle.cfg_blocks.proofs.Below.{map_below_push}
use Rattle.cfg_blocks.proofs.ends.word_ends.Goals as goal

pub loop-word-preserved : goal.loop-word-preserved
loop-word-preserved c =
    map_below_push _ (end_at c.args.text.now) _ _ _ c.in_ok-push.ensures.items c.word_end.ensures c.loop-word.invariant

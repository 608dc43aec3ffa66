use Rattle.routines.proofs.Adding.{called_more}
use Rattle.routines.proofs.starts.add_all_called.Goals as goal

pub loop-number-preserved : goal.loop-number-preserved
loop-number-preserved c = λ word.
    called_more _ _ word _ _ _ (c.loop-number.invariant word) (c.in_ok-add_called.ensures word)

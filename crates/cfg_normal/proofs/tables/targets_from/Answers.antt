use Rattle.std.proofs.Common.{◌+◌, ◌++◌, ap, sym, ◌∙◌}
use Rattle.cfg_normal.proofs.TableWords.{entry_in, targets_more}
use Rattle.cfg_normal.proofs.tables.targets_from.Goals as goal

pub loop-n-preserved : goal.loop-n-preserved
loop-n-preserved c =
    c.in_ok-push_target.ensures
    ∙ ap (λ ws. ws ++ entry_in c.args.text.now (c.args.from + c.loop-n.n)) c.loop-n.invariant
    ∙ sym (targets_more c.args.text.now c.args.from c.loop-n.n)

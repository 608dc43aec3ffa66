use Rattle.std.proofs.Common.{sym, ◌∙◌}
use Rattle.cfg_normal.proofs.TableWords.{targets_are}
use Rattle.cfg_normal.proofs.tables.targets.Goals as goal

pub returns : goal.returns
returns c = c.in_ok-targets.ensures ∙ sym (targets_are c.args.text.now c.args.switch _ c.table_start.ensures.start)

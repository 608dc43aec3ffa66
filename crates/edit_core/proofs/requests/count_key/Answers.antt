use Rattle.edit_core.proofs.Common.{cond, Some, ap, ◌∙◌, get, count_of, same_key}
use Rattle.edit_core.proofs.Counting.{key_counted}
use Rattle.edit_core.proofs.requests.count_key.Goals as goal

pub returns : goal.returns
returns c = λ other.
    ap count_of (c.in_ok-insert.ensures.updates.0 other)
    ∙ ap (λ n. count_of (cond (same_key c.args.key other) (Some n) (get same_key c.args.cases.now other)))
    c.in_ok-count.ensures.more
    ∙ key_counted (get same_key c.args.cases.now) c.args.key c.count_at.result c.count_at.ensures other

use Rattle.cfg_blocks.proofs.Common.{◌++◌, ◌∙◌, arith, numbers}
use Rattle.cfg_blocks.proofs.Agreement.{entered_alike, given_by}
use Rattle.cfg_blocks.proofs.list.blocks.Goals as goal

pub returns : goal.returns
returns c =
    c.in_ok-list.ensures ∙ rw c.deref.ensures.value
    (entered_alike c.args.text.now (numbers c.args.starts.now ++ numbers c.args.marks.now) _ c.len.ensures.text.some
    (λ k h. c.in_ok-given.ensures.given k (omega (arith, c.len.ensures.count))
    ∙ given_by c.args.starts.now c.args.marks.now k))

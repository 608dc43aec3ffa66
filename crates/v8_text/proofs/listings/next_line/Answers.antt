use Rattle.std.proofs.Common.{sym, ◌∙◌}
use Rattle.v8_text.proofs.Listed.{elsewhere, here, no_newline, not_a_line}
use Rattle.v8_text.proofs.listings.next_line.Goals as goal

pub returns-in_err-line : goal.returns-in_err-line
returns-in_err-line c =
    rw c.from_residual.ensures (λ at w after low fits is. no_newline c.args.bytes.now c.args.next
    (sym c.in_err-line.ensures) at w after fits)

pub returns-in_err-at : goal.returns-in_err-at
returns-in_err-at c =
    rw c.from_residual-in_err-at.ensures (λ at w after low fits is. not_a_line c.args.bytes.now c.args.next _
    (sym c.in_ok-line.ensures) c.in_err-at.ensures at w after low fits)

pub returns-then-is_next : goal.returns-then-is_next
returns-then-is_next c =
    let read = c.in_ok-at.ensures in (
      read.0,
      read.1,
      sym c.is_next.ensures ∙ c.if-is_next.true,
      here c.args.bytes.now c.args.next _ (sym c.in_ok-line.ensures) _ _ read.2,
    )

pub returns-else-is_next : goal.returns-else-is_next
returns-else-is_next c =
    let read = c.in_ok-at.ensures in
    λ at w after low fits is. elsewhere c.args.bytes.now c.args.next _ (sym c.in_ok-line.ensures) _ _ read.0 read.1 read.2
    (sym c.is_next.ensures ∙ c.if-is_next.false) at w after low fits is

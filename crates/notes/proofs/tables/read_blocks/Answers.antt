use Rattle.notes.proofs.Common.{◌≡◌, ◌-◌, ◌∙◌, Ok, ap, append-nil, arith, blocks_at}
use Rattle.notes.proofs.Steps.{fault_out}
use Rattle.notes.proofs.TableRows.{row_read, row_fault, blocks-row}
use Rattle.notes.proofs.tables.read_blocks.Goals as goal

pub returns-in_err-first : goal.returns-in_err-first
returns-in_err-first c =
    fault_out _ _ _ _ c.from_residual.ensures.1 (row_fault _ _ _ _ c.in_err-first.ensures (c.loop-row.invariant ∙ blocks-row _ _ _ _ _ _ _ (omega arith)))

pub loop-row-preserved : goal.loop-row-preserved
loop-row-preserved c =
    rw (c.in_ok-push.ensures.items) (row_read _ _ _ _ c.in_ok-first.ensures (c.loop-row.invariant ∙ blocks-row _ _ _ _ _ _ _ (omega arith)))

pub returns : goal.returns
unfolding blocks_at
returns c =
    let left : c.args.count - c.loop-row.row ≡ 0 = omega arith in
    c.loop-row.invariant ∙ rw left (ap Ok (append-nil _))

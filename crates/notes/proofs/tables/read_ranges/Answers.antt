use Rattle.notes.proofs.Common.{◌≡◌, ◌-◌, ◌∙◌, ◌∷◌, [], map, Ok, ap, append-nil, arith, map-append, range_seen, ranges_at}
use Rattle.notes.proofs.Steps.{fault_out}
use Rattle.notes.proofs.TableRows.{row_read, row_fault, ranges-row}
use Rattle.notes.proofs.tables.read_ranges.Goals as goal

pub returns-in_err-range : goal.returns-in_err-range
returns-in_err-range c =
    fault_out _ _ _ _ c.from_residual.ensures.1 (row_fault _ _ _ _ c.in_err-range.ensures (c.loop-row.invariant ∙ ranges-row _ _ _ _ _ _ _ _ (omega arith)))

pub loop-row-preserved : goal.loop-row-preserved
loop-row-preserved c =
    let items = ap (map range_seen) c.in_ok-push.ensures.items ∙ map-append range_seen c.loop-row.ranges.items (c.in_ok-range.range ∷ []) in
    rw items (row_read _ _ _ _ c.in_ok-range.ensures (c.loop-row.invariant ∙ ranges-row _ _ _ _ _ _ _ _ (omega arith)))

pub returns : goal.returns
unfolding ranges_at
returns c =
    let left : c.args.count - c.loop-row.row ≡ 0 = omega arith in
    c.loop-row.invariant ∙ rw left (ap Ok (append-nil _))

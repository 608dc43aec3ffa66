use Rattle.notes.proofs.Common.{◌≡◌, ◌-◌, ◌∙◌, ◌∷◌, [], map, Ok, ap, append-nil, arith, map-append, segment_seen, segments_at}
use Rattle.notes.proofs.Steps.{fault_out}
use Rattle.notes.proofs.TableRows.{row_read, row_fault, segments-row}
use Rattle.notes.proofs.tables.read_segments.Goals as goal

pub returns-in_err-segment : goal.returns-in_err-segment
returns-in_err-segment c =
    fault_out _ _ _ _ c.from_residual.ensures.1 (row_fault _ _ _ _ c.in_err-segment.ensures (c.loop-row.invariant ∙ segments-row _ _ _ _ _ _ (omega arith)))

pub loop-row-preserved : goal.loop-row-preserved
loop-row-preserved c =
    let items = ap (map segment_seen) c.in_ok-push.ensures.items ∙ map-append segment_seen c.loop-row.segments.items (c.in_ok-segment.segment ∷ []) in
    rw (items, c.from.ensures, c.from-in-loop-row.ensures) (row_read _ _ _ _ c.in_ok-segment.ensures (c.loop-row.invariant ∙ segments-row _ _ _ _ _ _ (omega arith)))

pub returns : goal.returns
unfolding segments_at
returns c =
    let left : c.args.count - c.loop-row.row ≡ 0 = omega arith in
    c.loop-row.invariant ∙ rw left (ap Ok (append-nil _))

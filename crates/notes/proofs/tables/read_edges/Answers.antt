use Rattle.notes.proofs.Common.{◌≡◌, ◌-◌, ◌<◌, ◌∙◌, ◌∷◌, [], map, Ok, ap, append-nil, arith, map-append, edge_seen, edges_at}
use Rattle.notes.proofs.Steps.{fault_out}
use Rattle.notes.proofs.TableRows.{edges-more, edges-fault, edges-none-read}
use Rattle.notes.proofs.tables.read_edges.Goals as goal

pub loop-row-init : goal.loop-row-init
loop-row-init c =
    let taken = c.in_ok-taken.ensures in
    (taken.width, rw (ap (map edge_seen) c.new-edges.ensures.items, taken.width, taken.marks) (edges-none-read _ _ _ _ _ _))

pub returns-in_err-edge : goal.returns-in_err-edge
returns-in_err-edge c =
    let width = c.loop-row.invariant.0 in
    let wide : 0 < c.loop-row.taken.width = omega arith in
    fault_out _ _ _ _ c.from_residual-in_err-edge.ensures.1 (edges-fault _ _ _ _ _ _ _ _ _ _ _ wide (omega arith) c.in_err-edge.ensures c.loop-row.invariant.1)

pub loop-row-preserved : goal.loop-row-preserved
loop-row-preserved c =
    let width = c.loop-row.invariant.0 in
    let wide : 0 < c.loop-row.taken.width = omega arith in
    let items = ap (map edge_seen) c.in_ok-push.ensures.items ∙ map-append edge_seen c.loop-row.edges.items (c.in_ok-edge.edge ∷ []) in
    let marked = c.mark.ensures in (
      marked.width ∙ width,
      rw (items, marked.width, marked.marks) (edges-more _ _ _ _ _ _ _ _ _ _ _ wide c.requires.few (omega arith) c.in_ok-edge.ensures c.loop-row.invariant.1),
    )

pub returns : goal.returns
unfolding edges_at
returns c =
    let left : c.args.count - c.loop-row.row ≡ 0 = omega arith in
    let read = c.loop-row.invariant.1 in
    read.so_far ∙ rw left (ap Ok (append-nil _))

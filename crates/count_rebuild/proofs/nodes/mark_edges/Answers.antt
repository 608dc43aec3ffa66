use Rattle.count_rebuild.proofs.Common.{sym, ◌<◌, Bool, ◌||◌, None, List, get_or, length, refl, ap, ◌∙◌, arith, ◌==◌, list_any, take_all, or-false, or_assoc, marked, edge_seen, ends_at}
use Rattle.notes.specs.declared.note.NoteEdge as declared_edge
use Rattle.count_rebuild.proofs.NodeMarks.{any_more}
use Rattle.count_rebuild.proofs.nodes.mark_edges.Goals as goal

abbrev no_edge : declared_edge.NoteEdge
no_edge = record { kind = 0; from = 0; to = 0; cell = None }

pub loop-edge-init : goal.loop-edge-init
loop-edge-init c = record { len = refl; marks = λ node l. sym (or-false _) }

pub loop-edge-preserved : goal.loop-edge-preserved
loop-edge-preserved c =
    let before = c.loop-edge.invariant in
    let edges = c.args.edges.now in
    let i = c.loop-edge.edge-index in
    record {
      len = c.mark-in-loop-edge.ensures.len ∙ c.mark.ensures.len ∙ before.len;
      marks = λ node l.
          let one : node < length c.loop-edge.nodes = omega (arith, l, before.len) in
          let two : node < length c.mark.new.nodes = omega (arith, l, before.len, c.mark.ensures.len) in
          let edge : declared_edge.NoteEdge = get_or edges i no_edge in
          c.mark-in-loop-edge.ensures.marks node two
          ∙ ap (λ (x : Bool). x || (edge.to == node)) (c.mark.ensures.marks node one
          ∙ ap (λ (x : Bool). x || (edge.from == node)) (before.marks node l))
          ∙ or_assoc _ (edge.from == node) (edge.to == node)
          ∙ any_more (λ (edge : declared_edge.NoteEdge). ends_at node (edge_seen edge)) edges i no_edge c.loop-edge-test.true _;
    }

pub returns-clause-marks : goal.returns-clause-marks
returns-clause-marks c =
    λ node l.
    c.loop-edge.invariant.marks node l
    ∙ ap (λ (edges : List declared_edge.NoteEdge). marked c.args.nodes.now node || list_any (λ edge. ends_at node (edge_seen edge)) edges)
    (take_all c.loop-edge.edge-index c.args.edges.now c.loop-edge-test.false)

use Rattle.show_text.proofs.Common.{rules, ℕ, ◌<◌, ◌≤◌, ◌∙◌, None, ap, arith, get_or, length, map, refl, zero-add, enumerate_from, get_or-map, length-map, get_or-enumerate_from, length-enumerate_from, edge_seen, notes_seen, count_line}
use Rattle.notes.specs.Format.{NoteEdge}
use Rattle.notes.specs.declared.note.NoteEdge as declared_edge
use Rattle.show_text.proofs.Joined.{all_lines, more_lines}
use Rattle.show_text.proofs.counting.put_counts.Goals as goal

-- what is read behind the end of a list of edges
abbrev no_edge : declared_edge.NoteEdge
no_edge = record { kind = 0; from = 0; to = 0; cell = None }

pub loop-number-preserved : goal.loop-number-preserved
loop-number-preserved c =
    let n = c.args.n.now in
    let edges = map edge_seen n.edges.items in
    let number = c.loop-number.number in
    let within : number < length n.edges.items = search rules in
    let seen : number < length edges = omega (arith, within, length-map n.edges.items edge_seen) in
    let item : ℕ × NoteEdge = (number, edge_seen (get_or n.edges.items number no_edge)) in
    more_lines (count_line (notes_seen n) c.args.counts.now) (enumerate_from 0 edges) number
    item (number, edge_seen no_edge) _ _ _
    (omega (arith, seen, length-enumerate_from 0 edges))
    (rw zero-add at (get_or-enumerate_from 0 edges number (number, edge_seen no_edge) seen)
    ∙ ap (λ (edge : NoteEdge). (number, edge)) (get_or-map edge_seen n.edges.items number no_edge (edge_seen no_edge) within))
    c.loop-number.invariant
    (rw c.deref-edge-items.ensures.value at (c.in_ok-put_count.ensures c.args.counts.now refl))

pub returns : goal.returns
returns c =
    let edges = map edge_seen c.args.n.now.edges.items in
    let all : length c.args.n.now.edges.items ≤ c.loop-number.number = search rules in
    all_lines (count_line (notes_seen c.args.n.now) c.args.counts.now) (enumerate_from 0 edges) c.loop-number.number _ _
    (omega (arith, length-enumerate_from 0 edges, length-map c.args.n.now.edges.items edge_seen, all))
    c.loop-number.invariant

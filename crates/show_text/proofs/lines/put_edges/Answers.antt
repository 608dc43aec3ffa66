use Rattle.show_text.proofs.Common.{ℕ, ◌<◌, ap, get_or, length, zero-add, arith, enumerate_from, get_or-enumerate_from, length-enumerate_from, edge_line}
use Rattle.cfg_blocks.specs.declared.EdgeKind.TheVariants.{Fall}
use Rattle.cfg_normal.specs.declared.Edge.{Edge}
use Rattle.cfg_normal.specs.declared.Node.TheVariants.{Block}
use Rattle.cfg_normal.specs.declared.Slot.TheVariants.{Nothing}
use Rattle.show_text.proofs.Joined.{all_lines, more_lines}
use Rattle.show_text.proofs.lines.put_edges.Goals as goal

-- what is read behind the end of a list of edges
abbrev no_edge : Edge
no_edge =
    record { from = Block (record { 0 = 0 }); to = Block (record { 0 = 0 }); kind = Fall; slot = Nothing }

pub loop-number-preserved : goal.loop-number-preserved
loop-number-preserved c =
    let view = c.args.view.now in
    let edges = view.graph.edges in
    let number = c.loop-number.number in
    let item : ℕ × Edge = (number, get_or edges number no_edge) in
    let within : number < length edges = omega (arith, ap length c.edges-edge-items.ensures.edges) in
    more_lines (edge_line view.image.text view.graph.blocks) (enumerate_from 0 edges) number
    item (number, no_edge) _ _ _
    (omega (arith, length-enumerate_from 0 edges))
    (rw zero-add at (get_or-enumerate_from 0 edges number (number, no_edge) within))
    c.loop-number.invariant (rw c.edges-edge-items.ensures.edges at c.in_ok-put_edge.ensures)

pub returns : goal.returns
returns c =
    let view = c.args.view.now in
    let edges = view.graph.edges in
    all_lines (edge_line view.image.text view.graph.blocks) (enumerate_from 0 edges) c.loop-number.number _ _
    (omega (arith, length-enumerate_from 0 edges, ap length c.edges-edge-items.ensures.edges))
    c.loop-number.invariant

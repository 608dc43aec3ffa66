use Rattle.liveness.proofs.Common.{arith, [], sym, ap, ◌∙◌, get_or_read, at, node_number}
use Rattle.liveness.proofs.Reaching.{marked_below}
use Rattle.liveness.proofs.chart.Chart.live_onto.Goals as goal

pub returns-then-has_node : goal.returns-then-has_node
returns-then-has_node c = λ x.
    let sets = c.args.sets.now in
    let mark = sym c.has_node.ensures ∙ c.if-has_node.true in
    let low = marked_below c.args.self.now.places.now.marks.items (node_number c.args.self.now.graph.now c.args.node) mark in
    let is =
    get_or_read sets c.node.result c.index-sets-node.result (omega (arith, c.requires.found.len, c.node.ensures, low))
    c.index-sets-node.is [] ∙ ap (at sets) c.node.ensures in
    rw is (c.requires.found.onto c.args.node c.requires.node mark x)

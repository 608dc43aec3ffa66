use Rattle.std.proofs.Common.{arith}
use Rattle.liveness.proofs.Spots.{nodes_high}
use Rattle.liveness.proofs.chart.Chart.node.Goals as goal

pub overflow_add-result : goal.overflow_add-result
overflow_add-result c =
    let chart = c.args.self.now in
    omega (arith, nodes_high chart.graph.now chart.of_firsts, chart.few, chart.of_firsts.few, chart.of_nodes, c.node_number.ensures.within)

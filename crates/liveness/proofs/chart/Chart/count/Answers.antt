use Rattle.std.proofs.Common.{arith}
use Rattle.liveness.proofs.Spots.{nodes_high}
use Rattle.liveness.proofs.chart.Chart.count.Goals as goal

pub returns-clause-few : goal.returns-clause-few
returns-clause-few c =
    let chart = c.args.self.now in
    omega (arith, nodes_high chart.graph.now chart.of_firsts, chart.few, chart.of_firsts.few, chart.of_nodes, chart.of_marks, c.len.ensures)

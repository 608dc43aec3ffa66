use Rattle.liveness.proofs.Common.{arith, get_or_default}
use Rattle.liveness.proofs.Spots.{held_of, nodes_high, place_within}
use Rattle.liveness.proofs.chart.Chart.place.Goals as goal

pub overflow_add-result : goal.overflow_add-result
overflow_add-result c =
    let chart = c.args.self.now in
    let graph = chart.graph.now in
    let low = rw c.in-Landed.is at (place_within graph chart.of_firsts c.args.node c.args.word
    (held_of graph chart.of_firsts c.args.node c.args.word c.requires.of)) in
    let in_graph = rw c.in-Landed.is at c.requires.of.inside in
    omega (
      arith,
      low,
      nodes_high graph chart.of_firsts,
      chart.few,
      chart.of_copies.from c.in-Landed.block.0 in_graph.0,
      get_or_default chart.places.now.copies.items c.in-Landed.block.0 c.index.result.now 0
          (omega (arith, chart.of_copies.len, in_graph.0)),
      c.index.ensures,
      c.first.ensures.first,
    )

pub returns-in-Block-clause-within : goal.returns-in-Block-clause-within
returns-in-Block-clause-within c =
    let graph = c.args.self.now.graph.now in
    let firsts = c.args.self.now.of_firsts in
    rw c.in-Block.is at
    (place_within graph firsts c.args.node c.args.word (held_of graph firsts c.args.node c.args.word c.requires.of))

pub returns-in-Landed-clause-within : goal.returns-in-Landed-clause-within
returns-in-Landed-clause-within c =
    let chart = c.args.self.now in
    let graph = chart.graph.now in
    let low = rw c.in-Landed.is at (place_within graph chart.of_firsts c.args.node c.args.word
    (held_of graph chart.of_firsts c.args.node c.args.word c.requires.of)) in
    let in_graph = rw c.in-Landed.is at c.requires.of.inside in
    omega (
      arith,
      low,
      chart.of_copies.from c.in-Landed.block.0 in_graph.0,
      get_or_default chart.places.now.copies.items c.in-Landed.block.0 c.index.result.now 0
          (omega (arith, chart.of_copies.len, in_graph.0)),
      c.index.ensures,
      c.first.ensures.first,
    )

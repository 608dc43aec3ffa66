use Rattle.cfg_normal.proofs.Cases.{edges_next, marks_next}
use Rattle.cfg_normal.proofs.edges.leave_by_cases.Goals as goal

pub loop-target-preserved : goal.loop-target-preserved
loop-target-preserved c =
    let b = c.args.nodes.now.blocks in
    let opens = c.args.nodes.now.opens in
    let i = c.loop-target.target-index in
    record {
      edges = edges_next b opens c.args.block.0 c.args.targets.now i _ c.loop-target-test.true c.lands-to.result
          c.lands-to.ensures.node c.args.edges.now.items c.loop-target.edges.items _ c.loop-target.seen
          c.loop-target.invariant.marks c.lands-to.ensures.numbered c.loop-target.invariant.edges
          c.in_ok-add_case.ensures.edges;
      marks = marks_next b opens c.args.block.0 c.args.targets.now i _ c.loop-target-test.true c.lands-to.result
          c.lands-to.ensures.node c.loop-target.seen _ c.lands-to.ensures.numbered c.loop-target.invariant.marks
          c.in_ok-add_case.ensures.seen;
    }

use Rattle.cfg_normal.proofs.GraphFacts.{is_graph}
use Rattle.cfg_normal.proofs.flow.graph.Goals as goal

pub invariant_of-result : goal.invariant_of-result
invariant_of-result c =
    rw c.in_ok-nodes.ensures.nodes (record {
      is_graph = is_graph c.args.blocks.now _ _ c.in_ok-nodes.ensures.list c.in_ok-nodes.ensures.opens
          (rw c.in_ok-nodes.ensures.nodes at c.in_ok-edges.ensures.edges);
      counted = rw c.in_ok-nodes.ensures.nodes at c.in_ok-edges.ensures.ways;
    })

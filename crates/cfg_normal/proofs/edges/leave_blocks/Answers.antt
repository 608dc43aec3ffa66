use Rattle.cfg_normal.proofs.Common.{◌++◌, add-one, ap, ◌∙◌, flat_map_more, below, edges_of}
use Rattle.cfg_normal.proofs.edges.leave_blocks.Goals as goal

pub loop-block-preserved : goal.loop-block-preserved
loop-block-preserved c =
    let f = edges_of c.args.nodes.now.blocks c.args.nodes.now.opens in
    let n = c.loop-block.block in
    record {
      edges = rw add-one (c.in_ok-leave.ensures.edges ∙ ap (λ es. es ++ f n) c.loop-block.invariant.edges
          ∙ flat_map_more f c.args.edges.now.items (below n) n);
      seen = c.in_ok-leave.ensures.seen;
    }

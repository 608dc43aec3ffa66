use Rattle.liveness.proofs.Common.{arith, ◌≡◌, ◌+◌, Block, last_in}
use Rattle.liveness.proofs.Held.{some_words, start_after, start_of}
use Rattle.liveness.proofs.chart.Chart.join_blocks.Goals as goal

pub loop-block-preserved : goal.loop-block-preserved
loop-block-preserved c =
    let b = c.args.self.now.graph.now.blocks in
    let some = some_words b.words b.firsts c.args.self.now.of_firsts c.loop-block.block (omega arith) in
    let end : last_in c.args.self.now.graph.now (Block (record { 0 = c.loop-block.block })) + 1
    ≡ start_of b.words b.firsts (c.loop-block.block + 1) =
    omega (arith, some, start_after b.words b.firsts c.loop-block.block) in
    rw end at
    c.in_ok-join_block.ensures

use Rattle.image_code.proofs.Common.{arith, ◌∙◌, length-set}
use Rattle.image_code.proofs.OpenNumbers.{block_noted}
use Rattle.image_code.proofs.first_images.note_blocks.Goals as goal

pub loop-block-preserved : goal.loop-block-preserved
loop-block-preserved c = record {
  blocks = block_noted c.args.graph.now _ _ _ _ (omega arith) c.place_of.ensures.place (omega arith) c.first.ensures.first
      c.loop-block.invariant.blocks;
  long = length-set c.loop-block.images c.place_of.result c.first.result.0 ∙ c.loop-block.invariant.long;
}

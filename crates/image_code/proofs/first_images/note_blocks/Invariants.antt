use Rattle.image_code.proofs.Common.{◌≡◌, ℕ, ◌<◌, length, slice_index, node_numbers, place_in_order}
use Rattle.image_code.proofs.first_images.note_blocks.Given as goal

abbrev pub invariant-loop-block : goal.invariant-loop-block
invariant-loop-block l = record {
  blocks : (k : ℕ) → k < l.block → slice_index l.images (place_in_order l.graph k) ≡ slice_index l.graph.blocks.firsts k;
  long : length l.images ≡ node_numbers l.graph;
}

use Rattle.show_text.proofs.Common.{length, zero-add, arith, range_with_len, get_or-range_with_len, length-range_with_len, block_line}
use Rattle.show_text.proofs.Joined.{all_lines, more_lines}
use Rattle.show_text.proofs.lines.put_blocks.Goals as goal

pub loop-block-preserved : goal.loop-block-preserved
loop-block-preserved c =
    let view = c.args.view.now in
    let count = length view.graph.blocks.firsts in
    let block = c.loop-block.block in
    more_lines (block_line view.image.text view.graph.blocks) (range_with_len 0 count) block block block _ _ _
    (omega (arith, length-range_with_len 0 count))
    (rw zero-add at (get_or-range_with_len 0 count block block (omega arith)))
    c.loop-block.invariant c.in_ok-put_block.ensures

pub returns : goal.returns
returns c =
    let view = c.args.view.now in
    let count = length view.graph.blocks.firsts in
    all_lines (block_line view.image.text view.graph.blocks) (range_with_len 0 count) c.loop-block.block _ _
    (omega (arith, length-range_with_len 0 count)) c.loop-block.invariant

use Rattle.show_text.proofs.Common.{◌≡◌, ◌++◌, length, take, flat_map, range_with_len, block_line}
use Rattle.show_text.proofs.lines.put_blocks.Given as goal

abbrev pub invariant-loop-block : goal.invariant-loop-block
invariant-loop-block l = l.text.items
    ≡ l.initial.text.items ++ flat_map (block_line l.view.image.text l.view.graph.blocks)
    (take l.block (range_with_len 0 (length l.view.graph.blocks.firsts)))

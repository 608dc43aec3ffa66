use Rattle.snippet_code.proofs.Common.{◌≡◌, ◌++◌, map, take, All, slice_index, word_of, IsOp, all_words}
use Rattle.snippet_code.proofs.operations.push_ops.Given as goal

abbrev pub invariant-loop-op : goal.invariant-loop-op
invariant-loop-op l = record {
  code : l.words.items ≡ l.initial.words.items
      ++ map word_of (all_words l.cells.0 l.codes_dead (slice_index l.regs) (take l.op-index l.ops));
  ops : All IsOp (take l.op-index l.ops);
}

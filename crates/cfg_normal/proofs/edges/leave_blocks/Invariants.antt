use Rattle.cfg_normal.proofs.Common.{◌≡◌, ℕ, ◌≤◌, ◌++◌, slice_index, flat_map, below, edges_of}
use Rattle.cfg_normal.proofs.edges.leave_blocks.Given as goal

abbrev pub invariant-loop-block : goal.invariant-loop-block
invariant-loop-block l = record {
  edges : l.edges.items ≡ l.initial.edges.items ++ flat_map (edges_of l.nodes.blocks l.nodes.opens) (below l.block);
  seen : (n : ℕ) → slice_index l.seen n ≤ l.block;
}

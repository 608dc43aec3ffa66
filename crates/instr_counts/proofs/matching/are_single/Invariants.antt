use Rattle.instr_counts.proofs.Common.{◌≡◌, ◌<◌, ℕ, size_of}
use Rattle.instr_counts.proofs.matching.are_single.Given as goal

abbrev pub invariant-loop-block : goal.invariant-loop-block
invariant-loop-block l = (k : ℕ) → k < l.block → size_of l.graph.blocks k ≡ 1

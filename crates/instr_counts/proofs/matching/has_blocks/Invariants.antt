use Rattle.instr_counts.proofs.Common.{◌≡◌, take}
use Rattle.instr_counts.proofs.matching.has_blocks.Given as goal

abbrev pub invariant-loop-block : goal.invariant-loop-block
invariant-loop-block l = take l.block l.firsts ≡ take l.block l.graph.blocks.firsts

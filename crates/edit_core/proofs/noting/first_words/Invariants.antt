use Rattle.edit_core.proofs.Common.{◌≡◌, take}
use Rattle.edit_core.proofs.noting.first_words.Given as goal

abbrev pub invariant-loop-block : goal.invariant-loop-block
invariant-loop-block l = l.firsts.items ≡ take l.block l.graph.blocks.firsts

use Rattle.instr_counts.proofs.Single.{words_are_blocks}
use Rattle.instr_counts.proofs.words_are_blocks.Goals as goal

pub returns : goal.returns
returns c = words_are_blocks

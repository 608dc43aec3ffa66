use Rattle.line_words.proofs.Whole.{nothing_else}
use Rattle.line_words.proofs.nothing_else_reads.Goals as goal

pub returns : goal.returns
returns c = nothing_else

use Rattle.line_words.proofs.Whole.{words_back}
use Rattle.line_words.proofs.words_read_back.Goals as goal

pub returns : goal.returns
returns c = words_back

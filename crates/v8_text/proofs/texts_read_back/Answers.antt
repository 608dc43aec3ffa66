use Rattle.v8_text.proofs.Words.{word_back}
use Rattle.v8_text.proofs.texts_read_back.Goals as goal

pub returns : goal.returns
returns c = word_back

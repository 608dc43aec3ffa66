use Rattle.weights_in.proofs.OneAnswer.{one_answer}
use Rattle.weights_in.proofs.texts_have_one_answer.Goals as goal

pub returns : goal.returns
returns c = one_answer

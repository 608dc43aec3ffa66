use Rattle.edit_core.proofs.Induction.{edits_answer}
use Rattle.edit_core.proofs.edits_answer.Goals as goal

pub returns : goal.returns
returns c = edits_answer

use Rattle.eel.proofs.Tools.{few_edges}
use Rattle.eel.proofs.edit.edited.Goals as goal

pub work_for-requires-clause-few : goal.work_for-requires-clause-few
work_for-requires-clause-few c = few_edges c.args.bytes.now _ _ c.in_ok-view.ensures.view c.in_ok-view.ensures.sound

use Rattle.walk_counts.proofs.Loops.{loops_are_of_texts}
use Rattle.walk_counts.proofs.loops_are_of_texts.Goals as goal

pub returns : goal.returns
returns c = loops_are_of_texts

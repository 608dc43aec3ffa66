use Rattle.snippets.proofs.Lines.{one_thing}
use Rattle.snippets.proofs.lines_say_one_thing.Goals as goal

pub returns : goal.returns
returns c = one_thing

use Rattle.edit_core.proofs.Common.{refl}
use Rattle.edit_core.proofs.editing.ask.Goals as goal

pub returns-clause-plan : goal.returns-clause-plan
returns-clause-plan g c = record {
  kind = c.kind.ensures;
  marks = refl;
  cells = c.cells.ensures.cells;
  snips = c.in_ok-snips.ensures.answers;
}

pub returns-clause-work : goal.returns-clause-work
returns-clause-work g c = record {
  few = rw c.cells.ensures.cells c.cells.ensures.sound.few;
  size = c.in_ok-snips.ensures.answers.size;
  good = rw c.cells.ensures.cells c.in_ok-snips.ensures.good;
  counters = c.requires _ (returns-clause-plan g c);
}

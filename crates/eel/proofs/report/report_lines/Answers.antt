use Rattle.eel.proofs.Common.{dump_seen, notes_seen}
use Rattle.eel.proofs.Reported.{exact}
use Rattle.eel.proofs.report.report_lines.Goals as goal

pub returns-clause-lines : goal.returns-clause-lines
returns-clause-lines c = record {
  notes = notes_seen c.in_ok-notes.notes;
  dump = dump_seen c.in_ok-state.state;
  read = record { noted = c.in_ok-notes.ensures.notes; dumped = c.in_ok-state.ensures.dump };
  tell = c.in_ok-lines.ensures.lines;
  exact = exact _ _ _ _ _ c.in_ok-notes.ensures.notes c.in_ok-lines.ensures.lines;
}

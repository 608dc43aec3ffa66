use Rattle.notes.proofs.Kept.{read_kept}
use Rattle.notes.proofs.read_notes_meet_rules.Goals as goal

pub returns : goal.returns
returns c = read_kept

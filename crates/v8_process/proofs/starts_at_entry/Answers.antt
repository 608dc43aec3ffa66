use Rattle.v8_process.proofs.Entry.{starts_at_entry}
use Rattle.v8_process.proofs.starts_at_entry.Goals as goal

pub returns : goal.returns
returns c = starts_at_entry

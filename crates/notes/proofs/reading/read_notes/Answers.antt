use Rattle.std.proofs.Common.{sym}
use Rattle.notes.proofs.Kept.{read_kept}
use Rattle.notes.proofs.Steps.{wanting_out}
use Rattle.notes.proofs.reading.read_notes.Goals as goal

pub returns-clause-rules : goal.returns-clause-rules
returns-clause-rules c = read_kept _ _ _ _ (rw c.field-version.ensures c.in_ok-words.ensures.version) c.in_ok-notes.ensures.read

pub returns-in_err-words-clause-memory : goal.returns-in_err-words-clause-memory
returns-in_err-words-clause-memory c =
    wanting_out _ _ _ _ c.from_residual.ensures.1 c.in_err-words.ensures.memory (λ never. absurd never)

pub returns-in_err-notes-clause-memory : goal.returns-in_err-notes-clause-memory
returns-in_err-notes-clause-memory c =
    let there = c.in_ok-words.ensures.there in
    wanting_out _ _ _ _ c.from_residual-in_err-notes.ensures.1 c.in_err-notes.ensures.memory
    (λ reads. (there.0, there.1, rw (sym c.in_ok-words.ensures.bytes, sym c.field-version.ensures) reads))

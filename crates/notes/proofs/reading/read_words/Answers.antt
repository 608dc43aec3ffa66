use Rattle.notes.proofs.Common.{refl, sym, subst, IsOk, IsFault, head_of, tables_of}
use Rattle.notes.proofs.Steps.{fault_out, through, wanting_held, wanting_out}
use Rattle.notes.proofs.Whole.{in_groups, in_parts}
use Rattle.notes.proofs.reading.read_words.Goals as goal

pub returns-in_err-head-clause-read : goal.returns-in_err-head-clause-read
returns-in_err-head-clause-read c =
    fault_out _ _ _ _ c.from_residual.ensures.1
    (subst (IsFault _) (sym (in_parts c.args.version c.args.size c.args.notes.now)) (through _ (head_of c.args.version c.args.size c.args.notes.now) (tables_of c.args.notes.now) (rw (in_groups c.args.version c.args.size c.args.notes.now) c.in_err-head.ensures.head)))

pub returns-in_err-notes-clause-read : goal.returns-in_err-notes-clause-read
returns-in_err-notes-clause-read c =
    fault_out _ _ _ _ c.from_residual-in_err-notes.ensures.1
    (rw (in_parts c.args.version c.args.size c.args.notes.now, in_groups c.args.version c.args.size c.args.notes.now, c.in_ok-head.ensures.head) c.in_err-notes.ensures.read)

pub returns-clause-read : goal.returns-clause-read
returns-clause-read c = rw (in_parts c.args.version c.args.size c.args.notes.now, in_groups c.args.version c.args.size c.args.notes.now, c.in_ok-head.ensures.head) c.in_ok-notes.ensures.read

pub returns-in_err-head-clause-memory : goal.returns-in_err-head-clause-memory
returns-in_err-head-clause-memory c =
    wanting_out _ _ _ _ c.from_residual.ensures.1 c.in_err-head.ensures.memory (λ never. absurd never)

pub returns-in_err-notes-clause-memory : goal.returns-in_err-notes-clause-memory
returns-in_err-notes-clause-memory c =
    let reads : IsOk (head_of c.args.version c.args.size c.args.notes.now) = rw (in_groups c.args.version c.args.size c.args.notes.now, c.in_ok-head.ensures.head) refl in
    wanting_held _ _ reads

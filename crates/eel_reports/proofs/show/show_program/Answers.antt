use Rattle.std.proofs.Common.{refl}
use Rattle.eel_reports.specs.Answers.Steps.{printed, untold, was_read}
use Rattle.eel_reports.proofs.show.show_program.Goals as goal

pub returns-in-Ok-lines-clause-prints : goal.returns-in-Ok-lines-clause-prints
returns-in-Ok-lines-clause-prints g c = λ feed err.
    was_read c.in-Ok.bytes.items c.in-Ok.ensures.read
    (printed c.in-Ok-lines.lines.items (rw c.deref.ensures.value at c.in-Ok-lines.ensures.lines)
    (rw c.deref-in-Ok-lines.ensures.value at c.print.ensures.printed) refl)

pub returns-clause-prints : goal.returns-clause-prints
returns-clause-prints g c = λ feed err.
    was_read c.in-Ok.bytes.items c.in-Ok.ensures.read
    (untold (rw c.deref.ensures.value at c.in-Err-lines.ensures.refused) (refl, refl))

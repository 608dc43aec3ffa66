use Rattle.eel.proofs.Common.{refl, files_seen, printed, unread, untold, was_read, read-later, unread-later}
use Rattle.eel.proofs.Reported.{seldom}
use Rattle.eel.proofs.report.report_run.Goals as goal

pub returns-in-Err-fetch_file-clause-reports : goal.returns-in-Err-fetch_file-clause-reports
returns-in-Err-fetch_file-clause-reports g c = λ feed err.
    was_read c.in-Ok.file.items c.in-Ok.ensures.read
    (unread (unread-later _ _ _ _
    (files_seen g.F.Files c.fetch_file-2.new.files) _ _ _
    c.fetch_file.ensures.kept c.in-Ok.ensures.unfaulted c.in-Err-fetch_file.ensures.unread) (refl, refl))

pub returns-in-Ok-report_lines-clause-reports : goal.returns-in-Ok-report_lines-clause-reports
returns-in-Ok-report_lines-clause-reports g c = λ feed err.
    was_read c.in-Ok.file.items c.in-Ok.ensures.read
    (was_read c.in-Ok-fetch_file.bytes.items
    (read-later _ _ _ _ _ _ _ c.fetch_file.ensures.kept c.in-Ok-fetch_file.ensures.read)
    (printed c.in-Ok-report_lines.lines.items
    (rw (c.deref.ensures.value, c.deref-2.ensures.value) at c.in-Ok-report_lines.ensures.lines)
    (rw c.deref-in-Ok-report_lines.ensures.value at c.print.ensures.printed) refl))

pub returns-clause-reports : goal.returns-clause-reports
returns-clause-reports g c = λ feed err.
    was_read c.in-Ok.file.items c.in-Ok.ensures.read
    (was_read c.in-Ok-fetch_file.bytes.items
    (read-later _ _ _ _ _ _ _ c.fetch_file.ensures.kept c.in-Ok-fetch_file.ensures.read)
    (untold
    (let is = rw (c.deref.ensures.value, c.deref-2.ensures.value) at c.in-Err-report_lines.ensures.refused in
    record { is = is; seldom = λ notes dump read. seldom _ _ _ _ notes dump read _ _ is })
    (refl, refl)))

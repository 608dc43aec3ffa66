use Rattle.eel.proofs.Common.{refl}
use Rattle.eel.proofs.top.perform.Goals as goal

pub returns-in-Edit-clause-follows : goal.returns-in-Edit-clause-follows
returns-in-Edit-clause-follows g c =
    rw (← c.in-Edit.ensures.command) (c.edit_file.ensures.edits, refl, (refl, refl))

pub returns-in-Run-default-default-None-default-clause-follows : goal.returns-in-Run-default-default-None-default-clause-follows
returns-in-Run-default-default-None-default-clause-follows g c =
    rw (← c.in-Run-default-default-None-default.ensures.command, c.in-Run-default-default-None-default.dump-is)
    c.run_program.ensures.runs

pub returns-in-Run-default-default-Some-default-clause-follows : goal.returns-in-Run-default-default-Some-default-clause-follows
returns-in-Run-default-default-Some-default-clause-follows g c = rw (← c.in-Run-default-default-Some-default.ensures.command, c.in-Run-default-default-Some-default.dump-is)
    c.run_for_dump.ensures.dumps

pub returns-in-ReportRun-clause-follows : goal.returns-in-ReportRun-clause-follows
returns-in-ReportRun-clause-follows g c =
    rw (← c.in-ReportRun.ensures.command) (c.report_run.ensures.reports _ _, c.report_run.ensures.kept, refl)

pub returns-in-Restore-clause-follows : goal.returns-in-Restore-clause-follows
returns-in-Restore-clause-follows g c =
    rw (← c.in-Restore.ensures.command) (c.restore_original.ensures.restores, refl, (refl, refl))

pub returns-in-Show-clause-follows : goal.returns-in-Show-clause-follows
returns-in-Show-clause-follows g c =
    rw (← c.in-Show.ensures.command) (c.show_program.ensures.prints _ _, c.show_program.ensures.kept, refl)

pub returns-in-Demo-clause-follows : goal.returns-in-Demo-clause-follows
returns-in-Demo-clause-follows g c =
    rw (← c.in-Demo.ensures.command) (c.demonstrate.ensures.tells _ _ _, refl, refl)

pub returns-in-PutWords-clause-follows : goal.returns-in-PutWords-clause-follows
returns-in-PutWords-clause-follows g c =
    rw (← c.in-PutWords.ensures.command) (c.assemble_words.ensures.assembles, refl, (refl, refl))

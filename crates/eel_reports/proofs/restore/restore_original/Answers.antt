use Rattle.eel_reports.specs.Answers.Steps.{put, unmade, was_read}
use Rattle.eel_reports.proofs.Later.{put-later}
use Rattle.eel_reports.proofs.restore.restore_original.Goals as goal

pub returns-in-Ok-original-clause-restores : goal.returns-in-Ok-original-clause-restores
returns-in-Ok-original-clause-restores g c =
    was_read c.in-Ok.bytes.items c.in-Ok.ensures.read
    (put c.in-Ok-original.original.now (rw c.deref.ensures.value at c.in-Ok-original.ensures.original)
    (put-later _ _ _ _ _ _ _ _ c.fetch_file.ensures.kept c.fetch_file.ensures.later c.put_file.ensures.put))

pub returns-clause-restores : goal.returns-clause-restores
returns-clause-restores g c =
    was_read c.in-Ok.bytes.items c.in-Ok.ensures.read
    (unmade (rw c.deref.ensures.value at c.in-Err-original.ensures.refused) c.fetch_file.ensures.kept)

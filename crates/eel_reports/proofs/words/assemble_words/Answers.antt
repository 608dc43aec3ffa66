use Rattle.eel_reports.specs.Answers.Steps.{put, unmade, was_read}
use Rattle.eel_reports.proofs.Later.{put-later}
use Rattle.eel_reports.proofs.words.assemble_words.Goals as goal

pub returns-in-Ok-assembled-clause-assembles : goal.returns-in-Ok-assembled-clause-assembles
returns-in-Ok-assembled-clause-assembles g c =
    was_read c.in-Ok.bytes.items c.in-Ok.ensures.read
    (put _ (rw c.deref.ensures.value at c.in-Ok-assembled.ensures.words)
    (put-later _ _ _ _ _ _ _ _ c.fetch_file.ensures.kept c.fetch_file.ensures.later
    (rw c.deref-in-Ok-assembled.ensures.value at c.put_file.ensures.put)))

pub returns-clause-assembles : goal.returns-clause-assembles
returns-clause-assembles g c =
    was_read c.in-Ok.bytes.items c.in-Ok.ensures.read
    (unmade (rw c.deref.ensures.value at c.in-Err-assembled.ensures.refused) c.fetch_file.ensures.kept)

use Rattle.eel.proofs.Common.{◌∙◌, arith, files_seen, put, unmade, was_read, put-later}
use Rattle.eel.proofs.Editing.{lines_read, lines_unread, within}
use Rattle.eel.proofs.edit.edit_file.Goals as goal

pub edited-requires-clause-lines : goal.edited-requires-clause-lines
edited-requires-clause-lines g c =
    rw c.deref-2.ensures.value
    (within _ (files_seen g.F.Files c.fetch_file.new.files) _ c.in-Ok-fetch_lines.ensures.read)

pub returns-in-Err-fetch_lines-clause-edits : goal.returns-in-Err-fetch_lines-clause-edits
returns-in-Err-fetch_lines-clause-edits g c =
    was_read c.in-Ok.bytes.items c.in-Ok.ensures.read
    (lines_unread c.fetch_file.ensures.kept c.in-Ok.ensures.unfaulted _ _ _ _ _ c.in-Err-fetch_lines.ensures.unread
    (c.fetch_lines.ensures.kept ∙ c.fetch_file.ensures.kept))

pub returns-in-Ok-edited-clause-edits : goal.returns-in-Ok-edited-clause-edits
returns-in-Ok-edited-clause-edits g c =
    let made = rw (c.deref.ensures.value, c.deref-2.ensures.value) at c.in-Ok-edited.ensures.edited in
    let first = c.fetch_file.ensures.later in
    let second = c.fetch_lines.ensures.later in
    was_read c.in-Ok.bytes.items c.in-Ok.ensures.read
    (lines_read c.fetch_file.ensures.kept c.in-Ok.ensures.unfaulted _ _ _ _ _ _ c.in-Ok-fetch_lines.ensures.read
    (put _ made
    (put-later _ _ _ _ _ _ _ _ (c.fetch_lines.ensures.kept ∙ c.fetch_file.ensures.kept) (omega (arith, first, second))
    (rw c.deref-in-Ok-edited.ensures.value at c.put_file.ensures.put))))

pub returns-clause-edits : goal.returns-clause-edits
returns-clause-edits g c =
    was_read c.in-Ok.bytes.items c.in-Ok.ensures.read
    (lines_read c.fetch_file.ensures.kept c.in-Ok.ensures.unfaulted _ _ _ _ _ _ c.in-Ok-fetch_lines.ensures.read
    (unmade (rw (c.deref.ensures.value, c.deref-2.ensures.value) at c.in-Err-edited.ensures.refused)
    (c.fetch_lines.ensures.kept ∙ c.fetch_file.ensures.kept)))

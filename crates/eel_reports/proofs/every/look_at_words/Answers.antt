use Rattle.std.proofs.Common.{ℕ, List, length, ap, ap₂, ◌∙◌}
use Rattle.std.specs.List.{range_with_len}
use Rattle.eel_base.specs.CodeText.{Words}
use Rattle.elf32_sparc.specs.Image.{Program}
use Rattle.cfg_blocks.specs.Marks.{numbers}
use Rattle.cfg_view.specs.View.{given_in, view_of, view_with}
use Rattle.eel_reports.proofs.Marked.{numbers_of_words}
use Rattle.eel_reports.proofs.every.look_at_words.Goals as goal

pub returns-clause-words : goal.returns-clause-words
returns-clause-words c =
    ap numbers c.in_ok-marks.ensures ∙ numbers_of_words (range_with_len 0 c.len.result)
    ∙ ap (range_with_len 0)
    (c.len.ensures.count ∙ ap (λ (text : Words). length text.words) c.text.ensures
    ∙ ap (λ (program : Program). length program.text.words) c.in_ok-image.ensures.image)

pub returns-clause-view : goal.returns-clause-view
unfolding view_of
returns-clause-view c =
    (rw c.deref.ensures.value at c.in_ok-view.ensures.view)
    ∙ ap₂ (λ (program : Program) (marks : List ℕ). view_with program (given_in program marks)) c.in_ok-image.ensures.image
    (returns-clause-words c)

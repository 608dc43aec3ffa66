use Rattle.edit_core.proofs.Common.{ap, ◌∙◌, sym, List, WordNo, numbers, view_of}
use Rattle.edit_core.proofs.editing.edit_bytes.Goals as goal

pub edit_view-requires : goal.edit_view-requires
edit_view-requires g c =
    let view = c.in_ok-view.ensures in
    let same = ap (λ (ms : List WordNo). view_of c.args.bytes.now (numbers ms)) c.marks.ensures in
    search (c.requires.limit, sym view.fault, view.view ∙ same, c.requires.counters)

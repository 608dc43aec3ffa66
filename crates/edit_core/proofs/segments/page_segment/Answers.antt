use Rattle.edit_core.proofs.Common.{ap, AddedSegment, editor_page, page_size}
use Rattle.edit_core.proofs.segments.page_segment.Goals as goal

pub returns : goal.returns
returns c =
    ap {B = AddedSegment} (λ bytes. record { vaddr = editor_page; memsz = page_size; flags = 6; bytes = bytes })
    c.in_ok-zeros.ensures

use Rattle.layout.proofs.Common.{◌∙◌, ap, sym, entries_left}
use Rattle.layout.proofs.entries.Cursor.next.Goals as goal

pub returns-in-Some : goal.returns-in-Some
returns-in-Some c =
    sym c.self.view_is
    ∙ ap (λ items. entries_left items c.self.inside.pieces.now c.self.inside.order.now) c.in-Some.ensures.cases.0

use Rattle.edit_core.proofs.Tables.{tables_joined}
use Rattle.edit_core.proofs.building.tables_for.Goals as goal

pub returns : goal.returns
returns c =
    let one = c.in_ok-extend_from_slice.ensures.items in
    let two = c.in_ok-extend_from_slice-2.ensures.items in
    let first = c.in_ok-first.ensures in
    rw (c.in_ok-put_pages.ensures, two, one, c.new-tables.ensures.items, c.bytes.ensures.value, c.deref.ensures.value)
    (tables_joined c.args.text.now c.args.targets.now c.args.foreign c.args.cases.now c.args.base.0
    c.in_ok-first.first.bytes c.in_ok-second.second.items (rw first.base at first.table)
    (rw c.table_size.ensures at c.in_ok-second.ensures) c.requires.room)

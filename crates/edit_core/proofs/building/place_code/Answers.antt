use Rattle.edit_core.proofs.Common.{◌≡◌, ◌+◌, length, map, slice_index, refl, ap, ◌∙◌, Addr, PieceNo, addr, cells_size, tables_size, placement_in}
use Rattle.edit_core.proofs.building.place_code.Goals as goal

pub returns-clause-entry : goal.returns-clause-entry
returns-clause-entry c = ap (λ (a : Addr). a.0) c.place_of-entry.ensures ∙ rw c.deref-10.ensures.value refl

pub returns-clause-leads : goal.returns-clause-leads
returns-clause-leads c =
    let at = (placement_in c.in_ok-placed.placed).at in
    let targets : c.deref-8.result.now
    ≡ map (λ (n : PieceNo). addr (slice_index at n.0)) c.args.made.now.landing.items =
    c.deref-8.ensures.value ∙ c.in_ok-targets.ensures ∙ rw (c.deref-3.ensures.value, c.deref-4.ensures.value) refl in
    let foreign : c.place_of-foreign.result ≡ addr (slice_index at c.args.made.now.foreign.0) =
    c.place_of-foreign.ensures ∙ rw c.deref-5.ensures.value refl in
    let cases : c.deref-9.result.now ≡ map (λ (n : PieceNo). slice_index at n.0) c.args.made.now.cases.items =
    c.deref-9.ensures.value ∙ c.in_ok-cases.ensures ∙ rw (c.deref-6.ensures.value, c.deref-7.ensures.value) refl in
    let above = c.above-addresses.ensures in
    rw (← targets, ← foreign, ← cases, ← c.text-text.ensures, ← above.base, ← above.cells, ← c.table.ensures)
    c.in_ok-tables.ensures

pub returns-clause-laid : goal.returns-clause-laid
returns-clause-laid c =
    let size : c.segment_size-size.result
    ≡ tables_size c.args.image.now.text + cells_size (length c.args.made.now.cases.items) =
    c.segment_size-size.ensures ∙ rw (c.text-text.ensures, c.deref.ensures.value) refl in
    rw (← c.above-addresses.ensures.base, ← c.above-addresses.ensures.cells, ← size)
    (rw c.deref-2.ensures.value at c.in_ok-placed.ensures)
